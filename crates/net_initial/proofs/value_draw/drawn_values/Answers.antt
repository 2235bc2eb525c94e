use Rattle.std.proofs.Common.{◌≤◌, ap, [], ◌∷◌, length, arith}
use Rattle.std.proofs.lemmas.List.{length-append}
use Rattle.std.proofs.lemmas.List.Elements.{All-push}
use Rattle.rand_core.specs.Steps.{stream_of, steps_u64_low}
use Rattle.rand_pcg.specs.Pcg.{pcg64}
use Rattle.net_initial.specs.Draws.{stream_by, values_from}
use Rattle.net_initial.proofs.Numbers.{values_more, values_end}
use Rattle.net_initial.proofs.value_draw.drawn_values.Goals as goal

pub loop-node-preserved : goal.loop-node-preserved
loop-node-preserved c =
    let a = c.args in
    let l = c.loop-node in
    let value = c.between-value.result in
    let pushed = c.in_ok-push.ensures.items in
    record {
      count = omega (arith, ap (λ v. length v) pushed, length-append l.values.items (value ∷ []), l.invariant.count);
      within = rw pushed (All-push (λ x. (a.low ≤ x) × (x ≤ a.high)) l.values.items value l.invariant.within c.between-value.ensures.within);
      drawn = rw pushed
          (values_more l.values.items (values_from a.nodes a.low a.high (stream_by a.seed)) a.nodes l._node a.low a.high (stream_of (steps_u64_low pcg64) l.rng) l.invariant.drawn value
          (stream_of (steps_u64_low pcg64) c.between-value.new.rng) c.loop-node-test.true c.between-value.ensures.drawn);
    }

pub returns-clause-drawn : goal.returns-clause-drawn
returns-clause-drawn c =
    values_end c.loop-node.values.items (values_from c.args.nodes c.args.low c.args.high (stream_by c.args.seed)) c.args.nodes c.loop-node._node c.args.low c.args.high (stream_of (steps_u64_low pcg64) c.loop-node.rng) c.loop-node.invariant.drawn
    (omega (arith, c.loop-node-test.false))

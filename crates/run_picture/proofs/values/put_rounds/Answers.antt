use Rattle.std.proofs.Common.{◌≡◌, ◌∙◌, ◌<◌, ◌+◌, ◌-◌, ◌++◌, ℕ, List, ap, append_assoc, arith, map, sym}
use Rattle.std.specs.List.{flat_map, range_with_len}
use Rattle.rounds_plan.specs.Plans.{PlanView}
use Rattle.rounds_walk.specs.Walking.{RoundView}
use Rattle.run_watch.specs.Spans.{count_of, round_at}
use Rattle.run_watch.proofs.Ranges.{map_left, round_rises}
use Rattle.run_picture.specs.Frames.{values_after}
use Rattle.run_picture.proofs.values.put_rounds.Goals as goal

pub loop-place-preserved : goal.loop-place-preserved
loop-place-preserved g c =
    let s = c.args.drawing.now.span.now in
    let field = c.args.drawing.now.colouring.field in
    let l = c.loop-place in
    let k = l.place in
    let p = c.args.walk.now.plan in
    let t = round_at s k in
    let e = c.in_ok-put_round.ensures in
    let inside : k < count_of s = omega (arith, c.loop-place-test.true, l.auto.place-end, c.steps-place-end.ensures.steps) in
    let rest = map (round_at s) (range_with_len (k + 1) (count_of s - (k + 1))) in
    let round_is : c.round_at-round.result ≡ t = c.round_at-round.ensures.round in
    let walk_round : c.put_round.new.walk.round ≡ t = ap (λ (v : RoundView). v.round) e.walk ∙ round_is in
    let wrote : c.put_round.new.values.items ≡ l.values.items ++ values_after p field t =
    e.values
    ∙ ap (λ (v : PlanView). l.values.items ++ values_after v field c.round_at-round.result) l.invariant.plan
    ∙ ap (λ (r : ℕ). l.values.items ++ values_after p field r) round_is in
    record {
      plan = ap (λ (v : RoundView). v.plan) e.walk ∙ l.invariant.plan;
      late = λ _. omega (arith, walk_round, round_rises s k);
      values =
          ap (λ (vs : List ℕ). vs ++ flat_map (values_after p field) rest) wrote
          ∙ append_assoc l.values.items (values_after p field t) (flat_map (values_after p field) rest)
          ∙ sym (ap (λ (rounds : List ℕ). l.values.items ++ flat_map (values_after p field) rounds) (map_left (round_at s) k (count_of s) inside))
          ∙ l.invariant.values;
    }

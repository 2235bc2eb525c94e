use Rattle.std.proofs.Common.{◌≡◌, ◌∙◌, ◌+◌, ◌<◌, List, ap, arith, get_or, length, map, refl, subst, sym}
use Rattle.std.proofs.lemmas.List.{length-map}
use Rattle.std.proofs.lemmas.List.FromFn.{length-map-range_with_len}
use Rattle.unison_world.specs.declared.step.Step.TheVariants.{Read}
use Rattle.run_naive.specs.declared.node.Node.{Node}
use Rattle.run_naive.specs.declared.node.Move.{Move}
use Rattle.run_naive.specs.Naive.{NaiveNode, after, opening_node}
use Rattle.run_naive.specs.Differences.{nodes_after}
use Rattle.run_naive.specs.Keeping.{IsKept, IsNaive, past_of, pasts_after, shown}
use Rattle.run_naive.proofs.Kept.{kept_more, kept_none}
use Rattle.run_naive.proofs.Machine.{after_more, naive_after}
use Rattle.run_naive.proofs.Noting.{written}
use Rattle.run_naive.proofs.stepping.nodes_after.Goals as goal

pub loop-index-init : goal.loop-index-init
loop-index-init c =
    let p = c.args.plan.now in
    let items = c.in_ok-nodes.nodes.items in
    let count = length-map items past_of ∙ sym (length-map items shown) ∙ ap length c.in_ok-nodes.ensures.exact ∙ length-map-range_with_len (opening_node p) 0 (length p.network) in
    record {
      shown = c.in_ok-nodes.ensures.exact;
      kept = kept_none p (nodes_after p c.args.stop c.args.steps.now) (map past_of items) refl count c.in_ok-nodes.ensures.past;
    }

pub step-requires-clause-naive : goal.step-requires-clause-naive
step-requires-clause-naive c =
    let p = c.args.plan.now in
    let same = ap (map shown) c.as_mut_slice.ensures.value ∙ c.loop-index.invariant.shown in
    subst (IsNaive p c.args.stop) (sym same) (naive_after p c.args.stop c.args.steps.now c.loop-index.index c.requires.late)

pub loop-index-preserved : goal.loop-index-preserved
loop-index-preserved c =
    let p = c.args.plan.now in
    let stop = c.args.stop in
    let steps = c.args.steps.now in
    let k = c.loop-index.index in
    let s = get_or steps k (Read 0 0) in
    let at = nodes_after p stop steps in
    let old = c.loop-index.nodes.items in
    let new = c.step.new.nodes in
    let value = c.as_mut_slice.ensures.value in
    let next = after_more p stop steps k (Read 0 0) (omega arith) in
    let before = naive_after p stop steps k c.requires.late in
    let behind = naive_after p stop steps (k + 1) c.requires.late in
    let shows : map shown new ≡ at (k + 1) =
    c.in_ok-step.ensures.after ∙ ap (λ (ns : List Node). after p stop (map shown ns) s) value ∙ ap (λ (ns : List NaiveNode). after p stop ns s) c.loop-index.invariant.shown ∙ sym next in
    let pasts : map past_of new ≡ pasts_after p stop (at k) (k + 1) s (map past_of old) =
    c.in_ok-step.ensures.past ∙ ap (λ (ns : List Node). pasts_after p stop (map shown ns) (k + 1) s (map past_of ns)) value
    ∙ ap (λ (ns : List NaiveNode). pasts_after p stop ns (k + 1) s (map past_of old)) c.loop-index.invariant.shown in
    let many : length new ≡ length old =
    sym (length-map new shown) ∙ ap length shows ∙ behind.one_each ∙ sym before.one_each ∙ sym (ap length c.loop-index.invariant.shown) ∙ length-map old shown in
    let whole = written new old c.loop-index.nodes.len c.loop-index.nodes.ok.0 many in
    record {
      shown = ap (map shown) whole ∙ shows;
      kept =
          subst (λ (ps : List (List Move)). IsKept p at (k + 1) ps) (sym (ap (map past_of) whole ∙ pasts))
          (kept_more p stop at k (map past_of old) before c.loop-index.invariant.kept s next);
    }

use Rattle.std.proofs.Common.{◌≡◌, ◌∙◌, ℤ, pos, Some, None, refl, sym, ap, get_or, length, slice_get, arith}
use Rattle.std.proofs.lemmas.Grind.{common_steps}
use Rattle.rounds_plan.specs.Plans.{nodes_in, number_of}
use Rattle.rounds_plan.proofs.Marks.{nodes_below}
use Rattle.rounds_plan.proofs.Entries.{node_at, entered_first, entered_next, entered_again}
use Rattle.rounds_plan.proofs.plan_cause.repeated_node.Goals as goal

pub loop-entry-init : goal.loop-entry-init
loop-entry-init c = record {
  kept = refl;
  nodes = c.requires.nodes;
  entered = entered_first (nodes_in c.args.pairs.now) (length c.args.seen.now) c.args.seen.now c.requires.fresh (nodes_below (length c.args.seen.now) c.args.pairs.now c.requires.nodes);
}

pub returns-in-Some-clause-found : goal.returns-in-Some-clause-found
returns-in-Some-clause-found c =
    let k = c.loop-entry.entry in
    let none : ℤ × ℤ = (pos 0, pos 0) in
    let p = get_or c.args.pairs.now k none in
    let node : number_of p.0 ≡ c.natural-node.result = grind (arith, common_steps) in
    let at : slice_get (nodes_in c.args.pairs.now) k ≡ Some c.natural-node.result = node_at c.args.pairs.now k none c.loop-entry-test.true ∙ ap (λ n. Some n) node in
    let old : get_or c.loop-entry.seen c.natural-node.result None ≡ Some c.in-Some.earlier = c.in-Some.is in
    sym (entered_again c.args.pairs.now k c.loop-entry.seen c.natural-node.result c.in-Some.earlier at old c.loop-entry.invariant.entered).twice

pub returns-in-Some-clause-named : goal.returns-in-Some-clause-named
returns-in-Some-clause-named c =
    let k = c.loop-entry.entry in
    let none : ℤ × ℤ = (pos 0, pos 0) in
    let p = get_or c.args.pairs.now k none in
    let node : number_of p.0 ≡ c.natural-node.result = grind (arith, common_steps) in
    let at : slice_get (nodes_in c.args.pairs.now) k ≡ Some c.natural-node.result = node_at c.args.pairs.now k none c.loop-entry-test.true ∙ ap (λ n. Some n) node in
    let old : get_or c.loop-entry.seen c.natural-node.result None ≡ Some c.in-Some.earlier = c.in-Some.is in
    (entered_again c.args.pairs.now k c.loop-entry.seen c.natural-node.result c.in-Some.earlier at old c.loop-entry.invariant.entered).repeat

pub loop-entry-preserved : goal.loop-entry-preserved
loop-entry-preserved c =
    let k = c.loop-entry.entry in
    let none : ℤ × ℤ = (pos 0, pos 0) in
    let p = get_or c.args.pairs.now k none in
    let node : number_of p.0 ≡ c.natural-node.result = grind (arith, common_steps) in
    let at : slice_get (nodes_in c.args.pairs.now) k ≡ Some c.natural-node.result = node_at c.args.pairs.now k none c.loop-entry-test.true ∙ ap (λ n. Some n) node in
    let new : get_or c.loop-entry.seen c.natural-node.result None ≡ None = c.in_default.is in
    record {
      kept = grind (arith, common_steps);
      nodes = grind (arith, common_steps);
      entered = entered_next (nodes_in c.args.pairs.now) k c.loop-entry.seen c.natural-node.result at c.natural-node.ensures.below new c.loop-entry.invariant.entered;
    }

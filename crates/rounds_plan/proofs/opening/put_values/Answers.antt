use Rattle.std.proofs.Common.{arith, ◌≡◌, ◌+◌, ◌++◌, ◌∷◌, [], take, get_or, pos, sym, add-one, ℤ, ◌∙◌, ap}
use Rattle.std.proofs.lemmas.Grind.{common_steps}
use Rattle.std.proofs.Math.Seq.{take-suc}
use Rattle.rounds_plan.specs.Configs.{blank}
use Rattle.rounds_plan.specs.Opening.{with_value}
use Rattle.rounds_plan.specs.Plans.{number_of, value_in}
use Rattle.rounds_plan.proofs.Values.{put_more}
use Rattle.rounds_plan.proofs.opening.put_values.Goals as goal

pub loop-pair-preserved : goal.loop-pair-preserved
loop-pair-preserved c = record {
  kept = grind (arith, common_steps);
  nodes = grind (arith, common_steps);
  values = grind (arith, common_steps);
  each = λ u h.
      let i = c.loop-pair.pair-index in
      let none : ℤ × ℤ = (pos 0, pos 0) in
      let p = get_or c.args.pairs.now i none in
      let more : take (i + 1) c.args.pairs.now ≡ take i c.args.pairs.now ++ p ∷ [] = ap (λ n. take n c.args.pairs.now) (add-one i) ∙ take-suc c.args.pairs.now i none c.loop-pair-test.true in
      let node : number_of p.0 ≡ c.natural-node.result = grind (arith, common_steps) in
      let value : number_of p.1 ≡ c.natural-value.result = grind (arith, common_steps) in
      put_more c.args.field c.loop-pair.states c.natural-node.result c.natural-value.result (take i c.args.pairs.now) p u (record { words = [] }) (get_or c.args.states.now u blank) node value (omega (arith, c.natural-node.ensures.below, c.loop-pair.invariant.kept)) (c.loop-pair.invariant.each u h)
      ∙ ap (λ ps. with_value c.args.field (value_in ps u) (get_or c.args.states.now u blank)) (sym more);
}

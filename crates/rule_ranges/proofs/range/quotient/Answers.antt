use Rattle.std.specs.Prelude.{ℕ, ◌≤◌, ◌/◌, ◌==◌}
use Rattle.std.proofs.Common.{arith, refl, subst, sym}
use Rattle.rule_check.specs.Table.{operate}
use Rattle.rule_lang.specs.declared.tree.Op.TheVariants.{Quot}
use Rattle.rule_ranges.proofs.Divided.{quot_few, quot_most}
use Rattle.rule_ranges.proofs.range.quotient.Goals as goal

pub returns-then-a-eq4294967295 : goal.returns-then-a-eq4294967295
returns-then-a-eq4294967295 c = record { within = λ v w of_a of_b. c.up_to.ensures.within v (operate Quot v w) (quot_few (w == 0) v w) of_a }

pub returns : goal.returns
returns c = record {
  within = λ v w of_a of_b.
      let a = c.args.a in
      let b = c.args.b in
      let few : v ≤ a.most = of_a.to (omega (arith, c.if-a-eq4294967295.false)) in
      record { from = omega arith; to = λ _. subst (λ (n : ℕ). operate Quot v w ≤ a.most / n) (sym c.max.ensures) (quot_most (w == 0) v w a.most b.least refl few of_b.from) };
}

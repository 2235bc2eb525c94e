use Rattle.std.specs.Prelude.{ℕ, ◌<◌, ◌≤◌, ◌==◌}
use Rattle.std.proofs.Common.{◌⊎◌, inl, inr, arith, refl}
use Rattle.std.proofs.lemmas.Bool.{cases_lt}
use Rattle.rule_check.specs.Table.{M, operate}
use Rattle.rule_lang.specs.declared.tree.Op.TheVariants.{Rem}
use Rattle.rule_ranges.proofs.Divided.{rem_few, rem_most}
use Rattle.rule_ranges.proofs.range.remainder.Goals as goal

pub returns-then-b-eq0 : goal.returns-then-b-eq0
returns-then-b-eq0 c = record { within = λ v w of_a of_b. c.up_to.ensures.within v (operate Rem v w) (rem_few (w == 0) v w) of_a }

-- a rest below a bound, where the first value has an end or has none
both_bounds : (x v m n : ℕ) → x ≤ v → (m < M → v ≤ m) → x < n → n < M → (m < M) ⊎ (M ≤ m) → (x ≤ m) × (x < n)
both_bounds x v m n few of_m below ends (inl p) = (omega (arith, few, of_m p), below)
both_bounds x v m n few of_m below ends (inr p) = (omega (arith, below, ends, p), below)

pub returns : goal.returns
returns c = record {
  within = λ v w of_a of_b.
      let a = c.args.a in
      let b = c.args.b in
      let ends : b.most < M = omega (arith, c.if-b-eq4294967295.false) in
      let few : w ≤ b.most = of_b.to ends in
      let some : 0 < w = omega (arith, c.if-b-eq0.false, of_b.from) in
      let x = operate Rem v w in
      let both = both_bounds x v a.most b.most (rem_few (w == 0) v w) of_a.to (rem_most (w == 0) v w b.most refl some few) ends (cases_lt a.most M) in
      record { from = omega arith; to = λ _. omega (arith, both.0, both.1, c.min.ensures, c.saturating_sub.ensures) };
}

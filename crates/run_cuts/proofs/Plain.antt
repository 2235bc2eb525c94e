-- Where a number that is cut differs from the plain one.
use Rattle.std.proofs.Common.{◌≡◌, ◌≢◌, ℕ, ◌+◌, ◌-◌, ◌<◌, min, true, inl, inr, arith}
use Rattle.std.specs.Prelude.{◌↔◌, nat_lt}
use Rattle.std.proofs.lemmas.Bool.{cases_lt, lt-ltb, ltb-true}
use Rattle.rule_check.specs.Table.{M}

-- above the greatest value
pub above_differs : (m : ℕ) → (nat_lt M m ≡ true) ↔ (min m M ≢ m)
above_differs m = (
  λ above. λ same. let lt : 4294967295 < m = ltb-true 4294967295 m above in omega (arith, lt, same),
  λ differs. elim (cases_lt 4294967295 m) [ inl lt ↦ lt-ltb 4294967295 m lt | inr le ↦ absurd (differs (omega (arith, le))) ],
)

-- below 0
pub below_differs : (m n : ℕ) → (nat_lt m n ≡ true) ↔ (m - n + n ≢ m)
below_differs m n = (
  λ below. λ same. let lt : m < n = ltb-true m n below in omega (arith, lt, same),
  λ differs. elim (cases_lt m n) [ inl lt ↦ lt-ltb m n lt | inr le ↦ absurd (differs (omega (arith, le))) ],
)

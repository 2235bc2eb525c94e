-- How many nodes a hypercube has.
use Rattle.std.proofs.Common.{◌≡◌, ℕ, ◌^◌, ◌≤◌, nat_le, arith, false, inl, inr, true}
use Rattle.std.proofs.Math.Nat.{pow-le-pow_right}
use Rattle.std.proofs.lemmas.Bool.{cases_Bool}
use Rattle.std.proofs.lemmas.Bool.Decides.{nat_tests}
use Rattle.link_net.specs.Limits.{most_rows}

small : (d : ℕ) → d ≤ 31 → 2 ^ d ≤ 2 ^ 31
small d low = pow-le-pow_right (omega arith) low

large : (d : ℕ) → 32 ≤ d → 2 ^ 32 ≤ 2 ^ d
large d high = pow-le-pow_right (omega arith) high

-- 31 digits at most are those of so many nodes as a network may have
pub cube_fits : (d : ℕ) → nat_le d 31 ≡ nat_le (2 ^ d) most_rows
cube_fits d =
    elim (cases_Bool (nat_le d 31)) [
      | inl few ↦
          let low : d ≤ 31 = grind (arith, nat_tests) in
          rw few (at (2 ^ d) (small d low))
      | inr many ↦
          let high : 32 ≤ d = grind (arith, nat_tests) in
          rw many (past (2 ^ d) (large d high))
    ] where
      at : (n : ℕ) → n ≤ 2 ^ 31 → true ≡ nat_le n most_rows
      at n low = grind (arith, nat_tests)

      past : (n : ℕ) → 2 ^ 32 ≤ n → false ≡ nat_le n most_rows
      past n high = grind (arith, nat_tests)

-- and a hypercube that fits has no more
pub cube_small : (d : ℕ) → nat_le (2 ^ d) most_rows ≡ true → d ≤ 31
cube_small d fits =
    elim (cases_Bool (nat_le d 31)) [
      | inl few ↦ grind (arith, nat_tests)
      | inr many ↦
          let high : 32 ≤ d = grind (arith, nat_tests) in
          absurd (past (2 ^ d) (large d high) fits)
    ] where
      past : (n : ℕ) → 2 ^ 32 ≤ n → nat_le n most_rows ≡ true → ⊥
      past n high fits = grind (arith, nat_tests)

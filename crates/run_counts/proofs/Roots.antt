-- Square roots that are rounded down.
use Rattle.std.proofs.Common.{◌≡◌, ◌≤◌, ◌<◌, ◌+◌, ◌-◌, ◌*◌, ◌/◌, ◌^◌, ◌∙◌, ℕ, zero, suc, Bool, true, false, nat_le, if◌then◌else◌, inl, inr, ap, arith, div-lt_iff_lt-mul, le-div_iff_mul-le, mul_comm, pow-suc, refl}
use Rattle.std.proofs.Math.Nat.{mul-le-mul}
use Rattle.std.proofs.lemmas.Bool.{cases_lt, leb-true, leb-false}
use Rattle.run_counts.specs.Spread.{root}

-- r is the square root of n, rounded down
pub record IsRoot (n r : ℕ) : Type 0 where
  pub low : r * r ≤ n
  pub high : n < (r + 1) * (r + 1)

square_next : (r : ℕ) → r * r < (r + 1) * (r + 1)
square_next r = grind arith

step : (n r : ℕ) (b : Bool) → nat_le ((r + 1) * (r + 1)) (suc n) ≡ b → IsRoot n r → IsRoot (suc n) (if b then r + 1 else r)
step n r true is root_is = record { low = leb-true ((r + 1) * (r + 1)) (suc n) is; high = omega (arith, root_is.high, square_next (r + 1)) }
step n r false is root_is = record { low = omega (arith, root_is.low); high = leb-false ((r + 1) * (r + 1)) (suc n) is }

pub is_root : (n : ℕ) → IsRoot n (root n)
is_root zero = record { low = omega arith; high = omega arith }
is_root (suc n) = step n (root n) (nat_le ((root n + 1) * (root n + 1)) (suc n)) refl (is_root n)

-- a root is not above another one of the same number
not_above : (n r s : ℕ) → r * r ≤ n → n < (s + 1) * (s + 1) → r ≤ s
not_above n r s low high =
    elim (cases_lt s r) [
      | inl above ↦ absurd (omega (arith, low, high, mul-le-mul {n₁ = s + 1} {m₁ = s + 1} {n₂ = r} {m₂ = r} (omega (arith, above)) (omega (arith, above))))
      | inr fine ↦ fine
    ]

pub root_is : (n r : ℕ) → r * r ≤ n → n < (r + 1) * (r + 1) → root n ≡ r
root_is n r low high = omega (arith, not_above n (root n) r (is_root n).low high, not_above n r (root n) low (is_root n).high)

-- the root of a quotient: its square times the divisor is not above the dividend, and that of the next number is
pub root_of_quotient : (n b r : ℕ) → zero < b → b * (r * r) ≤ n → n < b * ((r + 1) * (r + 1)) → root (n / b) ≡ r
root_of_quotient n b r some low high =
    root_is (n / b) r ((le-div_iff_mul-le {k = b} {x = r * r} {y = n} some).1 (omega (arith, low, mul_comm b (r * r))))
    ((div-lt_iff_lt-mul {k = b} {x = n} {y = (r + 1) * (r + 1)} some).1 (omega (arith, high, mul_comm b ((r + 1) * (r + 1)))))

-- a step that is halved
pub halved : (h s : ℕ) → h < 79 → s ≡ 2 ^ (79 - h) → (s / 2 ≡ 2 ^ (79 - (h + 1))) × (s ≡ 2 * (s / 2))
halved h s inside is =
    let left : 79 - h ≡ suc (79 - (h + 1)) = omega (arith, inside) in
    let twice : s ≡ 2 ^ (79 - (h + 1)) * 2 = is ∙ ap (λ (k : ℕ). 2 ^ k) left ∙ pow-suc 2 (79 - (h + 1)) in
    (omega (arith, twice), omega (arith, twice))

-- the last step
pub last_step : (h s : ℕ) → 79 ≤ h → s ≡ 2 ^ (79 - h) → s ≡ 1
last_step h s all is =
    let none : 79 - h ≡ 0 = omega (arith, all) in
    is ∙ ap (λ (k : ℕ). 2 ^ k) none

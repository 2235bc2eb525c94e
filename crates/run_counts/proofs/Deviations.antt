-- Means and deviations are rounded to the nearest.
use Rattle.std.proofs.Common.{◌≡◌, ◌≤◌, ◌<◌, ◌+◌, ◌-◌, ◌*◌, ◌/◌, ◌^◌, ℕ, zero, arith, length}
use Rattle.std.proofs.Math.Nat.{div-mul-le_self, lt-div-mul-add, mul-le-mul, mul-le-mul_right}
use Rattle.run_counts.specs.Spread.{DeviationsAreNearest, divisor_of, root, squares_off}
use Rattle.run_counts.proofs.Roots.{is_root}

-- half of a root and 1, rounded down: its double is the root, or one more
half_low : (r : ℕ) → 2 * ((r + 1) / 2) - 1 ≤ r
half_low r = omega (arith, div-mul-le_self (r + 1) 2)

half_high : (r : ℕ) → r + 1 ≤ 2 * ((r + 1) / 2) + 1
half_high r = omega (arith, lt-div-mul-add {a = r + 1} {b = 2} (omega arith))

nearest : (k b : ℕ) → zero < b → let d = (root (k / b) + 1) / 2 in ((2 * d - 1) * (2 * d - 1) * b ≤ k) × (k < (2 * d + 1) * (2 * d + 1) * b)
nearest k b some =
    let q = k / b in
    let r = root q in
    let d = (r + 1) / 2 in
    let below : (2 * d - 1) * (2 * d - 1) * b ≤ q * b =
    mul-le-mul_right b (omega (arith, mul-le-mul {n₁ = 2 * d - 1} {m₁ = 2 * d - 1} {n₂ = r} {m₂ = r} (half_low r) (half_low r), (is_root q).low)) in
    let above : (q + 1) * b ≤ (2 * d + 1) * (2 * d + 1) * b =
    mul-le-mul_right b (omega (arith, mul-le-mul {n₁ = r + 1} {m₁ = r + 1} {n₂ = 2 * d + 1} {m₂ = 2 * d + 1} (half_high r) (half_high r), (is_root q).high)) in
    let last : k < (q + 1) * b = grind (arith, lt-div-mul-add {a = k} {b = b} some) in
    (omega (arith, below, div-mul-le_self k b), omega (arith, above, last))

pub several_some : (n : ℕ) → 2 ≤ n → zero < n * n * (n - 1)
several_some n several = omega (arith, mul-le-mul {n₁ = 2 * 2} {m₁ = 1} {n₂ = n * n} {m₂ = n - 1} (mul-le-mul {n₁ = 2} {m₁ = 2} {n₂ = n} {m₂ = n} several several) (omega (arith, several)))

pub deviations_are_nearest : DeviationsAreNearest
deviations_are_nearest numbers several = nearest (400000000 * squares_off numbers) (divisor_of numbers) (several_some (length numbers) several)

-- the squares are not too many for the divisor
pub squares_fit : (n x s : ℕ) → 2 ≤ n → s ≤ n * ((n * x) * (n * x)) → s ≤ n * n * (n - 1) * (2 * (x * x))
squares_fit n x s several few =
    let twice : n * n * (n * (x * x)) ≤ n * n * (2 * (n - 1) * (x * x)) = mul-le-mul {n₁ = n * n} {m₁ = n * (x * x)} {n₂ = n * n} {m₂ = 2 * (n - 1) * (x * x)} (omega arith) (mul-le-mul_right (x * x) (omega (arith, several))) in
    let left : n * ((n * x) * (n * x)) ≡ n * n * (n * (x * x)) = grind arith in
    let right : n * n * (2 * (n - 1) * (x * x)) ≡ n * n * (n - 1) * (2 * (x * x)) = grind arith in
    omega (arith, few, twice, left, right)

-- what squares are divided by is small
pub divisor_small : (n : ℕ) → n ≤ 1000 → n * n * (n - 1) < 2 ^ 30
divisor_small n few =
    let square = mul-le-mul {n₁ = n} {m₁ = n} {n₂ = 1000} {m₂ = 1000} few few in
    let all = mul-le-mul {n₁ = n * n} {m₁ = n - 1} {n₂ = 1000 * 1000} {m₂ = 999} square (omega (arith, few)) in
    omega (arith, all)

-- the squares of so few numbers of 64 bits fit
pub squares_small : (n s : ℕ) → n ≤ 1000 → s ≤ n * ((n * 2 ^ 64) * (n * 2 ^ 64)) → s ≤ 1000 * ((1000 * 2 ^ 64) * (1000 * 2 ^ 64))
squares_small n s few small =
    let one = mul-le-mul_right (2 ^ 64) few in
    let square = mul-le-mul {n₁ = n * 2 ^ 64} {m₁ = n * 2 ^ 64} {n₂ = 1000 * 2 ^ 64} {m₂ = 1000 * 2 ^ 64} one one in
    let all = mul-le-mul {n₁ = n} {m₁ = (n * 2 ^ 64) * (n * 2 ^ 64)} {n₂ = 1000} {m₂ = (1000 * 2 ^ 64) * (1000 * 2 ^ 64)} few square in
    omega (arith, small, all)

-- 400000000 times the squares are below what a divisor may be times
pub squares_below : (s b : ℕ) → 1 ≤ b → s ≤ b * (2 * (2 ^ 64 * 2 ^ 64)) → 400000000 * s < b * 2 ^ 158
squares_below s b some few = omega (arith, some, few)

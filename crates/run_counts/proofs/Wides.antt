-- Numbers in two parts.
use Rattle.std.proofs.Common.{◌≡◌, ◌∙◌, ◌+◌, ◌*◌, ◌/◌, ◌%◌, ℕ, ap, arith, div-add-mod'}

square_parts : (a b p : ℕ) → (a * (a * p + 2 * b)) * p + b * b ≡ (a * p + b) * (a * p + b)
square_parts a b p = grind arith

-- the square of a number, from its two parts
pub square_is : (n p : ℕ) → (n / p * (n / p * p + 2 * (n % p))) * p + (n % p) * (n % p) ≡ n * n
square_is n p = square_parts (n / p) (n % p) p ∙ ap (λ (m : ℕ). m * m) (div-add-mod' n p)

-- a multiple of a number of two parts
pub times_parts : (f a b p : ℕ) → (f * a) * p + f * b ≡ f * (a * p + b)
times_parts f a b p = grind arith

-- Rows that are looked up.
use Rattle.std.proofs.Common.{◌≡◌, ◌∙◌, ℕ, List, map, ap, arith, length, get_or, ◌<◌}
use Rattle.std.proofs.lemmas.List.{get_or-map, length-map}

-- one part of each link of a row: as many, and slot by slot
pub so_many : (f : ℕ × ℕ → ℕ) (links : List (ℕ × ℕ)) (xs : List ℕ) → xs ≡ map f links → length xs ≡ length links
so_many f links xs is = ap length is ∙ length-map links f

pub at_slot : (f : ℕ × ℕ → ℕ) (links : List (ℕ × ℕ)) (xs : List ℕ) (j : ℕ) → xs ≡ map f links → j < length xs → get_or xs j 0 ≡ f (get_or links j (0, 0))
at_slot f links xs j is inside = ap (λ (ys : List ℕ). get_or ys j 0) is ∙ get_or-map f links j (0, 0) 0 (omega (arith, inside, so_many f links xs is))

-- Rows of a network, and the greatest of some numbers.
use Rattle.std.proofs.Common.{ℕ, ◌≤◌, List, map, subst, arith}
use Rattle.std.specs.Prelude.{All}
use Rattle.std.proofs.lemmas.List.{get_or-map, length-map}
use Rattle.std.proofs.lemmas.List.Elements.{All-from_get_or}

-- the second of each pair is bounded where all the seconds are
pub seconds_at_most : (most : ℕ) (arcs : List (ℕ × ℕ)) → All (λ n. n ≤ most) (map (λ arc. arc.1) arcs) → All (λ (arc : ℕ × ℕ). arc.1 ≤ most) arcs
seconds_at_most most arcs each =
    All-from_get_or (λ (arc : ℕ × ℕ). arc.1 ≤ most) arcs (0, 0)
    (λ i inside. subst (λ n. n ≤ most) (get_or-map (λ (arc : ℕ × ℕ). arc.1) arcs i (0, 0) 0 inside) (each i 0 (omega (arith, length-map arcs (λ (arc : ℕ × ℕ). arc.1), inside))))

-- What is found of a node, and of a slot, where there may be none.
use Rattle.std.proofs.Common.{◌≡◌, ℕ, zero, suc, List, [], ◌∷◌, length, Option, Some, None, slice_get, slice_index_or, refl, ap, ◌∙◌}
use Rattle.std.specs.Option.{option_map, option_and_then, unwrap_or}
use Rattle.std.proofs.lemmas.Option.{unwrap_or-slice_get}
use Rattle.link_net.specs.Neighbours.{Neighbours, row, degree, neighbour, weight, slot_at, neighbour_at, weight_at}

known_length : (o : Option (List (ℕ × ℕ))) → unwrap_or (option_map length o) 0 ≡ length (unwrap_or o [])
known_length None = refl
known_length (Some row) = refl

-- the degree of a node, as it is looked up
pub degree_known : (network : Neighbours) (u : ℕ) → unwrap_or (option_map length (slice_get network u)) 0 ≡ degree network u
degree_known network u = known_length (slice_get network u) ∙ ap length (unwrap_or-slice_get network u [])

known_first : (o : Option (ℕ × ℕ)) → unwrap_or (option_map (λ (a : ℕ × ℕ). a.0) o) 0 ≡ (unwrap_or o (0, 0)).0
known_first None = refl
known_first (Some a) = refl

known_second : (o : Option (ℕ × ℕ)) → unwrap_or (option_map (λ (a : ℕ × ℕ). a.1) o) 0 ≡ (unwrap_or o (0, 0)).1
known_second None = refl
known_second (Some a) = refl

known_slot : (o : Option (List (ℕ × ℕ))) (j : ℕ) → unwrap_or (option_and_then (λ (row : List (ℕ × ℕ)). slice_get row j) o) (0, 0) ≡ slice_index_or (unwrap_or o []) j (0, 0)
known_slot None j = refl
known_slot (Some row) j = unwrap_or-slice_get row j (0, 0)

slot_known : (network : Neighbours) (u j : ℕ) → unwrap_or (slot_at network u j) (0, 0) ≡ slice_index_or (slice_index_or network u []) j (0, 0)
slot_known network u j = known_slot (slice_get network u) j ∙ ap (λ (row : List (ℕ × ℕ)). slice_index_or row j (0, 0)) (unwrap_or-slice_get network u [])

-- the neighbour at a slot, as it is looked up
pub neighbour_known : (network : Neighbours) (u j : ℕ) → unwrap_or (neighbour_at network u j) 0 ≡ neighbour network u j
neighbour_known network u j = known_first (slot_at network u j) ∙ ap (λ (a : ℕ × ℕ). a.0) (slot_known network u j)

-- the weight at a slot, as it is looked up
pub weight_known : (network : Neighbours) (u j : ℕ) → unwrap_or (weight_at network u j) 0 ≡ weight network u j
weight_known network u j = known_second (slot_at network u j) ∙ ap (λ (a : ℕ × ℕ). a.1) (slot_known network u j)

-- of a node that is none
pub no_row : {B : Type 0} (network : Neighbours) (u : ℕ) (f : List (ℕ × ℕ) → B) → None ≡ option_map f (slice_get network u) → row network u ≡ []
no_row [] u f none = refl
no_row (r ∷ rs) zero f none = cc
no_row (r ∷ rs) (suc u) f none = no_row rs u f none

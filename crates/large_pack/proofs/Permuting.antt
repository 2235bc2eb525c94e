-- What is made of each element of a list, where the list is put into another order.
use Rattle.std.proofs.Common.{◌≡◌, ℕ, ◌<◌, Bool, List, [], ◌∷◌, ◌++◌, length, get_or, zero, suc, refl, ap, append_assoc, cond, arith, inl, inr}
use Rattle.std.proofs.Math.ListN.{set}
use Rattle.std.proofs.lemmas.Bool.{cases_Bool}
use Rattle.std.specs.List.{filter, flat_map, swap}
use Rattle.std.specs.List.Sorted.{IsPermutation}
use Rattle.std.proofs.lemmas.List.Sorted.{IsPermutation-refl, IsPermutation-trans, IsPermutation-append_left, IsPermutation-append_right, IsPermutation-append_comm, IsPermutation-keeps}

three_turn : {Y : Type 0} (u v w : List Y) → IsPermutation (u ++ (v ++ w)) (v ++ (u ++ w))
three_turn u v w =
    let turned : IsPermutation ((u ++ v) ++ w) ((v ++ u) ++ w) = IsPermutation-append_left w (u ++ v) (v ++ u) (IsPermutation-append_comm u v) in
    rw (append_assoc u v w, append_assoc v u w) at turned

module _ {X Y : Type 0} (f : X → List Y) where
  replaced : (x : X) (xs : List X) (j : ℕ) (d : X) → j < length xs → IsPermutation (f x ++ flat_map f xs) (f (get_or xs j d) ++ flat_map f (set xs j x))
  replaced x [] j d low = absurd (omega arith)
  replaced x (y ∷ ys) zero d low = three_turn (f x) (f y) (flat_map f ys)
  replaced x (y ∷ ys) (suc j) d low =
      let z = get_or ys j d in
      IsPermutation-trans (f x ++ (f y ++ flat_map f ys)) (f y ++ (f x ++ flat_map f ys)) (f z ++ (f y ++ flat_map f (set ys j x)))
      (three_turn (f x) (f y) (flat_map f ys))
      (IsPermutation-trans (f y ++ (f x ++ flat_map f ys)) (f y ++ (f z ++ flat_map f (set ys j x))) (f z ++ (f y ++ flat_map f (set ys j x)))
      (IsPermutation-append_right (f y) (f x ++ flat_map f ys) (f z ++ flat_map f (set ys j x)) (replaced x ys j d (omega arith)))
      (three_turn (f y) (f z) (flat_map f (set ys j x))))

  swapped : (l : List X) (i j : ℕ) (d : X) → i < length l → j < length l → IsPermutation (flat_map f l) (flat_map f (set (set l i (get_or l j d)) j (get_or l i d)))
  swapped [] i j d low high = absurd (omega arith)
  swapped (x ∷ xs) zero zero d low high = IsPermutation-refl (f x ++ flat_map f xs)
  swapped (x ∷ xs) zero (suc j) d low high = replaced x xs j d (omega arith)
  swapped (x ∷ xs) (suc i) zero d low high = replaced x xs i d (omega arith)
  swapped (x ∷ xs) (suc i) (suc j) d low high =
      IsPermutation-append_right (f x) (flat_map f xs) (flat_map f (set (set xs i (get_or xs j d)) j (get_or xs i d))) (swapped xs i j d (omega arith) (omega arith))

  swap_step : (l : List X) (i j : ℕ) → i < length l → j < length l → IsPermutation (flat_map f l) (flat_map f (swap l i j))
  swap_step [] i j low high = absurd (omega arith)
  swap_step (d ∷ ys) i j low high = swapped (d ∷ ys) i j d low high

  -- what is made of each element is the same in another order
  pub flat_map_moved : (xs ys : List X) → IsPermutation xs ys → IsPermutation (flat_map f xs) (flat_map f ys)
  flat_map_moved xs ys moved =
      IsPermutation-keeps xs (λ (l : List X). IsPermutation (flat_map f xs) (flat_map f l)) (IsPermutation-refl (flat_map f xs))
      (λ l i j low high before. IsPermutation-trans (flat_map f xs) (flat_map f l) (flat_map f (swap l i j)) before (swap_step l i j low high)) ys moved

abbrev kept_alone : {X : Type 0} → (X → Bool) → X → List X
kept_alone p x = cond (p x) (x ∷ []) []

filter_flat : {X : Type 0} (p : X → Bool) (xs : List X) → flat_map (kept_alone p) xs ≡ filter p xs
filter_flat p [] = refl
filter_flat p (x ∷ xs) =
    elim (cases_Bool (p x)) [
      | inl keeps ↦ rw keeps (ap (λ t. x ∷ t) (filter_flat p xs))
      | inr drops ↦ rw drops (filter_flat p xs)
    ]

-- what passes a test is the same in another order
pub filter_moved : {X : Type 0} (p : X → Bool) (xs ys : List X) → IsPermutation xs ys → IsPermutation (filter p xs) (filter p ys)
filter_moved p xs ys moved = rw (filter_flat p xs, filter_flat p ys) at (flat_map_moved (kept_alone p) xs ys moved)

-- The pieces of a list, all of one length.
use Rattle.std.proofs.Common.{◌≡◌, ◌∙◌, ℕ, ◌+◌, ◌-◌, ◌*◌, ◌≤◌, List, ◌∷◌, zero, suc, refl, ap, take, drop, arith}
use Rattle.std.specs.Simd.{first_chunks}
use Rattle.std.proofs.lemmas.List.{take-take, drop-take}

-- the first pieces lie in the front of the list
pieces_in_front : {X : Type 0} (n k m : ℕ) (xs : List X) → n * k ≤ m → first_chunks n k (take m xs) ≡ first_chunks n k xs
pieces_in_front n zero m xs room = refl
pieces_in_front n (suc k) m xs room =
    let here : n ≤ m = omega arith in
    let left : n + (m - n) ≡ m = omega arith in
    let rest = ap (first_chunks n k) (ap (λ j. drop n (take j xs)) (omega arith) ∙ drop-take n (m - n) xs) ∙ pieces_in_front n k (m - n) (drop n xs) (omega arith) in
    ap (λ x. x ∷ first_chunks n k (drop n (take m xs))) (take-take n m xs here) ∙ ap (λ r. take n xs ∷ r) rest

-- the pieces of a range are those from its start on
pub pieces_of_range : (n k place : ℕ) (xs : List ℕ) (m : ℕ) → m ≡ n * k → (whole : ℕ) → whole ≡ k → first_chunks n whole (take m (drop place xs)) ≡ first_chunks n k (drop place xs)
pieces_of_range n k place xs m is whole all = rw all (pieces_in_front n k m (drop place xs) (omega (arith, is)))

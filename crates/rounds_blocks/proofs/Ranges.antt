-- Ranges of numbers, and lists in two parts.
use Rattle.std.proofs.Common.{◌≡◌, ◌<◌, ◌≤◌, ◌+◌, ◌-◌, ◌++◌, ℕ, zero, suc, List, [], ◌∷◌, length, map, All, refl, sym, ap, ◌∙◌, arith, subst, slice_index, slice_index_or, length-append, append-nil, append_assoc, zero-add}
use Rattle.std.specs.List.{range_with_len}
use Rattle.std.proofs.lemmas.List.{get_or-append_right}
use Rattle.std.proofs.lemmas.List.FromFn.{map-range_with_len_more, length-range_with_len, get_or-range_with_len}
use Rattle.std.proofs.lemmas.List.Sorted.{All-permutation, IsPermutation-sym, IsPermutation-append}
use Rattle.std.proofs.lemmas.Grind.{flat_map-append}
use Rattle.std.specs.List.Sorted.{IsPermutation}
use Rattle.link_net.specs.Neighbours.{Neighbours, degree, numbers_below}
use Rattle.rounds_blocks.specs.declared.batch.Batch.{Batch}
use Rattle.rounds_blocks.specs.Batches.{AreFalling, nodes_of}

map_same : (xs : List ℕ) → map (λ x. x) xs ≡ xs
map_same [] = refl
map_same (x ∷ xs) = ap (λ ys. x ∷ ys) (map_same xs)

-- one number more
pub numbers_more : (n : ℕ) → numbers_below (n + 1) ≡ numbers_below n ++ n ∷ []
numbers_more n =
    sym (map_same (range_with_len 0 (n + 1)))
    ∙ map-range_with_len_more (λ x. x) 0 n n (zero-add n)
    ∙ ap (λ xs. xs ++ n ∷ []) (map_same (range_with_len 0 n))

-- one number more, from any first one on
pub range_more : (a n : ℕ) → range_with_len a (n + 1) ≡ range_with_len a n ++ (a + n) ∷ []
range_more a n =
    sym (map_same (range_with_len a (n + 1)))
    ∙ map-range_with_len_more (λ x. x) a n (a + n) refl
    ∙ ap (λ xs. xs ++ (a + n) ∷ []) (map_same (range_with_len a n))

-- the first numbers, and those after them
pub numbers_parts : (a n : ℕ) → numbers_below (a + n) ≡ numbers_below a ++ range_with_len a n
numbers_parts a zero =
    let e : a + 0 ≡ a = omega arith in
    ap numbers_below e ∙ sym (append-nil (numbers_below a))
numbers_parts a (suc n) =
    let e : a + suc n ≡ a + n + 1 = omega arith in
    let f : suc n ≡ n + 1 = omega arith in
    ap numbers_below e
    ∙ numbers_more (a + n)
    ∙ ap (λ xs. xs ++ (a + n) ∷ []) (numbers_parts a n)
    ∙ append_assoc (numbers_below a) (range_with_len a n) ((a + n) ∷ [])
    ∙ ap (λ xs. numbers_below a ++ xs) (sym (range_more a n) ∙ ap (range_with_len a) (sym f))

-- numbers up to an end are below all that is not below the end
pub range_within : (a n most : ℕ) → a + n ≤ most → All (λ u. u < most) (range_with_len a n)
range_within a n most few k d h =
    let inside : k < n = omega (arith, h, length-range_with_len a n) in
    omega (arith, inside, few, get_or-range_with_len a n k d inside)

-- the nodes of a window after those before it
pub window_more : (first end : ℕ) (before window after : List ℕ) → first ≤ end → IsPermutation (numbers_below first) before → IsPermutation (range_with_len first (end - first)) window
    → after ≡ before ++ window → IsPermutation (numbers_below end) after
window_more first end before window after order once here are =
    let e : first + (end - first) ≡ end = omega (arith, order) in
    let parts : numbers_below first ++ range_with_len first (end - first) ≡ numbers_below end = sym (numbers_parts first (end - first)) ∙ ap numbers_below e in
    subst (λ xs. IsPermutation xs after) parts
    (subst (λ ys. IsPermutation (numbers_below first ++ range_with_len first (end - first)) ys) (sym are)
    (IsPermutation-append (numbers_below first) before (range_with_len first (end - first)) window once here))

-- what holds of the nodes in any order holds of each
pub each_number : (P : ℕ → Type 0) (n : ℕ) (nodes : List ℕ) → IsPermutation (numbers_below n) nodes → All P nodes → (u : ℕ) → u < n → P u
each_number P n nodes once all u inside =
    let back = All-permutation P nodes (numbers_below n) (IsPermutation-sym (numbers_below n) nodes once) all in
    let place : u < length (numbers_below n) = omega (arith, inside, length-range_with_len 0 n) in
    subst P (get_or-range_with_len 0 n u 0 inside ∙ zero-add u) (back u 0 place)

-- the nodes of one batch more
pub nodes_more : (batches : List Batch) (batch : Batch) (rest front back nodes : List ℕ) → nodes_of batches ++ rest ≡ nodes → front ++ back ≡ rest → batch.nodes ≡ front → nodes_of (batches ++ batch ∷ []) ++ back ≡ nodes
nodes_more batches batch rest front back nodes all parts are =
    ap (λ ns. ns ++ back) (flat_map-append (λ (b : Batch). b.nodes) batches (batch ∷ []))
    ∙ ap (λ ns. (nodes_of batches ++ ns) ++ back) (append-nil batch.nodes ∙ are)
    ∙ append_assoc (nodes_of batches) front back
    ∙ ap (λ ns. nodes_of batches ++ ns) parts
    ∙ all

-- what holds of all holds of the last of them
pub all_back : {X : Type 0} (P : X → Type 0) (front back rest : List X) → front ++ back ≡ rest → All P rest → All P back
all_back P front back rest parts all k d h =
    let place : length front + k < length rest = omega (arith, h, length-append front back, ap length parts) in
    let is : slice_index_or rest (length front + k) d ≡ slice_index_or back k d =
    ap (λ xs. slice_index_or xs (length front + k) d) (sym parts)
    ∙ get_or-append_right front back (length front) (length front + k) d refl (omega arith)
    ∙ ap (λ i. slice_index_or back i d) (omega arith) in
    subst P is (all (length front + k) d place)

at_back : (front back rest : List ℕ) (k : ℕ) → front ++ back ≡ rest → slice_index rest (length front + k) ≡ slice_index back k
at_back front back rest k parts =
    ap (λ xs. slice_index xs (length front + k)) (sym parts)
    ∙ get_or-append_right front back (length front) (length front + k) 0 refl (omega arith)
    ∙ ap (λ i. slice_index back i) (omega arith)

-- the last of falling nodes fall
pub falling_back : (network : Neighbours) (front back rest : List ℕ) → front ++ back ≡ rest → AreFalling network rest → AreFalling network back
falling_back network front back rest parts falling i j le h =
    let place : length front + j < length rest = omega (arith, h, length-append front back, ap length parts) in
    let fact = falling (length front + i) (length front + j) (omega (arith, le)) place in
    let first = ap (degree network) (at_back front back rest i parts) in
    let second = ap (degree network) (at_back front back rest j parts) in
    omega (arith, fact, first, second)

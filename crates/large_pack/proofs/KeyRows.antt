-- The lists made of numbers in order hold a network that has the arcs for which these stand.
use Rattle.std.proofs.Common.{◌≡◌, ℕ, ◌+◌, ◌/◌, ◌%◌, ◌<◌, ◌≤◌, false, List, [], ◌∷◌, length, get_or, map, replicate, nat_lt, refl, ap, Ordering, Less, Equal, Greater, nat_cmp, arith, inl, inr}
use Rattle.std.proofs.lemmas.Bool.{cases_Bool}
use Rattle.std.proofs.lemmas.Bool.Decides.{nat_tests}
use Rattle.std.specs.Cmp.{tied_itself}
use Rattle.std.proofs.lemmas.Cmp.{nat_cmp_total}
use Rattle.std.specs.Ordering.{is_lt, ordering_then}
use Rattle.std.specs.List.Sorted.{IsSorted, IsNonDecreasing}
use Rattle.std.proofs.lemmas.List.{length-map, get_or-map, get_or_default}
use Rattle.std.proofs.lemmas.List.Elements.{All-from_recursion}
use Rattle.std.proofs.lemmas.List.Sorted.{IsPermutation-refl}
use Rattle.link_net.specs.Limits.{most_rows}
use Rattle.link_net.specs.Links.{AllWithin}
use Rattle.link_net.specs.Arcs.{Arc, IsFirst}
use Rattle.large_pack.specs.Keys.{arc_in, arcs_in, IsFirstKey}
use Rattle.large_pack.proofs.Laying.{full_cmp, AreTables}

-- ---- order

abbrev span : ℕ
span = 4294967296

greater : (a b : ℕ) → a < b → nat_cmp b a ≡ Greater
greater a b h = grind (arith, nat_tests)

not_less : (a b : ℕ) → a ≤ b → is_lt (nat_cmp b a) ≡ false
not_less a b h =
    elim (cases_Bool (nat_lt a b)) [
      | inl less ↦ (let lt : a < b = grind (arith, nat_tests) in rw (greater a b lt) refl)
      | inr more ↦
          let same : a ≡ b = grind (arith, nat_tests) in
          rw (same, tied_itself nat_cmp_total b) refl
    ]

then_same : (first : Ordering) → is_lt first ≡ false → is_lt (ordering_then first Equal) ≡ false
then_same Less h = h
then_same Equal h = refl
then_same Greater h = refl

-- numbers in order stand for arcs in order
keys_order : (w x y : ℕ) → x ≤ y → is_lt (full_cmp (arc_in w y) (arc_in w x)) ≡ false
keys_order w x y h =
    rw (tied_itself nat_cmp_total w)
    (then_same (ordering_then (nat_cmp (y / span) (x / span)) (nat_cmp (y % span) (x % span)))
    (elim (cases_Bool (nat_lt (x / span) (y / span))) [
      | inl less ↦ (let lt : x / span < y / span = grind (arith, nat_tests) in rw (greater (x / span) (y / span) lt) refl)
      | inr more ↦
          let ge : y / span ≤ x / span = grind (arith, nat_tests) in
          let same : x / span ≡ y / span = omega arith in
          let low : x % span ≤ y % span = omega arith in
          rw (same, tied_itself nat_cmp_total (y / span)) (not_less (x % span) (y % span) low)
    ]))

arcs_sorted : (w : ℕ) (ks : List ℕ) → IsNonDecreasing ks → IsSorted full_cmp (arcs_in w ks)
arcs_sorted w ks up k d low high =
    let short : k + 1 < length ks = omega (arith, length-map ks (arc_in w)) in
    rw (get_or-map (arc_in w) ks (k + 1) 0 d short, get_or-map (arc_in w) ks k 0 d (omega arith))
    (keys_order w (get_or ks k 0) (get_or ks (k + 1) 0) (up k (k + 1) 0 (omega arith) short))

-- ---- where the arcs of a node begin

-- the place from which on no number stands for an arc from below u
pub first_is : (ks : List ℕ) (u i : ℕ) → IsNonDecreasing ks → i ≤ length ks → ((k : ℕ) (d : ℕ) → k < i → get_or ks k d / 4294967296 < u) → u ≤ get_or ks i 0 / 4294967296 → IsFirstKey ks u i
first_is ks u i up bound before here = record {
  bound = bound;
  before = before;
  after = λ k d low high.
      let later : get_or ks i d ≤ get_or ks k d = up i k d low high in
      let same : get_or ks i d ≡ get_or ks i 0 = get_or_default ks i d 0 (omega arith) in
      omega arith;
}

-- the same of the arcs
first_arc : (w : ℕ) (ks : List ℕ) (u i : ℕ) → IsFirstKey ks u i → IsFirst (arcs_in w ks) u i
first_arc w ks u i first = record {
  bound = rw (length-map ks (arc_in w)) first.bound;
  before = λ k d low. rw (get_or-map (arc_in w) ks k 0 d (omega (arith, first.bound))) (first.before k 0 low);
  after = λ k d low high.
      let short : k < length ks = omega (arith, length-map ks (arc_in w)) in
      rw (get_or-map (arc_in w) ks k 0 d short) (first.after k 0 low short);
}

-- the nodes that arcs come from
pub from_below : (w n : ℕ) (ks : List ℕ) → AllWithin n (arcs_in w ks) → (k : ℕ) (d : ℕ) → k < length ks → get_or ks k d / 4294967296 < n
from_below w n ks within k d low =
    let all = All-from_recursion (λ (a : Arc). (a.0 < n) × (a.1 < n)) (arcs_in w ks) within in
    let here : (arc_in w (get_or ks k d)).0 < n = rw (get_or-map (arc_in w) ks k d (0, 0, 0) low) at (all k (0, 0, 0) (rw (length-map ks (arc_in w)) low)).0 in
    here

-- ---- the lists

pub targets_are : (w : ℕ) (ks : List ℕ) → map (λ k. k % 4294967296) ks ≡ map (λ (a : Arc). a.1) (arcs_in w ks)
targets_are w [] = refl
targets_are w (k ∷ ks) = ap (λ t. k % 4294967296 ∷ t) (targets_are w ks)

pub weights_are : (w : ℕ) (ks : List ℕ) → replicate (length ks) w ≡ map (λ (a : Arc). a.2) (arcs_in w ks)
weights_are w [] = refl
weights_are w (k ∷ ks) = ap (λ t. w ∷ t) (weights_are w ks)

pub tables_of : (w n : ℕ) (ks : List ℕ) (offsets : List ℕ) → IsNonDecreasing ks → AllWithin n (arcs_in w ks) → length ks ≤ most_rows → length offsets ≡ n + 1
    → ((u : ℕ) → u < length offsets → IsFirstKey ks u (get_or offsets u 0)) → AreTables n (arcs_in w ks) (arcs_in w ks) offsets
tables_of w n ks offsets up within few count firsts = record {
  within = within;
  few = rw (length-map ks (arc_in w)) few;
  moved = IsPermutation-refl (arcs_in w ks);
  sorted = arcs_sorted w ks up;
  count = count;
  firsts = λ u low. first_arc w ks u (get_or offsets u 0) (firsts u low);
}

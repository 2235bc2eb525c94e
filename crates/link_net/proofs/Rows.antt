-- The neighbours of each node, from the sorted arcs.
use Rattle.std.proofs.Common.{◌≡◌, ◌∙◌, ℕ, ◌+◌, ◌<◌, ◌≤◌, ◌==◌, Bool, true, false, List, [], ◌∷◌, length, get_or, zero, suc, Less, Equal, Greater, nat_cmp, nat_lt, refl, map, arith, inl, inr}
use Rattle.std.proofs.lemmas.Bool.{cases_Bool}
use Rattle.std.proofs.lemmas.Bool.Decides.{nat_tests}
use Rattle.std.specs.Cmp.{tied_itself, nat_eq_equiv}
use Rattle.std.proofs.lemmas.Cmp.{nat_cmp_total}
use Rattle.std.specs.List.{list_any, AllByRecursion, filter, range_with_len}
use Rattle.std.specs.List.Sorted.{IsPermutation, IsStrictlySortedBy, IsNonDecreasingBy}
use Rattle.std.proofs.lemmas.List.Sorted.{list_any-IsPermutation, IsNonDecreasingBy-from_sort, All-permutation}
use Rattle.std.proofs.lemmas.List.Elements.{All-from_recursion, recursion_from_All}
use Rattle.std.specs.Ordering.{is_lt}
use Rattle.link_net.proofs.ArcLaws.{are_linked-arcs}
use Rattle.link_net.specs.Links.{are_linked, linked_with, AllWithin}
use Rattle.link_net.specs.Arcs.{Arc, arcs_of, leads, arc_cmp}

-- the arcs from a node, and where they lead, in their order
abbrev pub from_node : ℕ → List Arc → List Arc
from_node u arcs = filter (λ a. a.0 == u) arcs

abbrev pub ends_from : ℕ → List Arc → List ℕ
ends_from u arcs = map (λ a. a.1) (from_node u arcs)

-- what a node's row shows of an arc
abbrev pub shown : Arc → ℕ × ℕ
shown a = (a.1, a.2)

-- each number is below those after it
abbrev pub Rises : List ℕ → Type 0
Rises [] = Unit {0}
Rises (y ∷ ys) = AllByRecursion (λ z. y < z) ys × Rises ys

abbrev pub AllBetween : ℕ → ℕ → List ℕ → Type 0
AllBetween a b ys = AllByRecursion (λ y. (a ≤ y) × (y < b)) ys

above_between : (a y b : ℕ) (ys : List ℕ) → a ≤ y → AllByRecursion (λ z. y < z) ys → AllBetween a b ys → AllBetween (a + 1) b ys
above_between a y b [] low above within = tt
above_between a y b (z ∷ zs) low above within = ((omega (arith, above.0), within.0.1), above_between a y b zs low above.1 within.1)

above_trans : (x y : ℕ) (ys : List ℕ) → x < y → AllByRecursion (λ z. y < z) ys → AllByRecursion (λ z. x < z) ys
above_trans x y [] low above = tt
above_trans x y (z ∷ zs) low above = (omega (arith, above.0), above_trans x y zs low above.1)

absent : (q : ℕ) (ys : List ℕ) → AllByRecursion (λ z. q < z) ys → list_any (λ z. q == z) ys ≡ false
absent q [] above = refl
absent q (z ∷ zs) above =
    let here : (q == z) ≡ false = grind (arith, nat_tests, above.0) in
    rw here (absent q zs above.1)

shifted : (a n : ℕ) → a + suc n ≡ (a + 1) + n
shifted a n = omega arith

joined : (a y : ℕ) (xs ys : List ℕ) → a ≡ y → xs ≡ ys → y ∷ xs ≡ a ∷ ys
joined a y xs ys p q = cc

-- numbers that rise are those of the range that are among them
pub rising-filter : (n a : ℕ) (ys : List ℕ) (p : ℕ → Bool) → Rises ys → AllBetween a (a + n) ys
    → ((q : ℕ) → a ≤ q → p q ≡ list_any (λ z. q == z) ys) → ys ≡ filter p (range_with_len a n)
rising-filter zero a [] p up within among = refl
rising-filter zero a (y ∷ ys) p up within among = absurd (omega (arith, within.0.0, within.0.1))
rising-filter (suc n) a [] p up within among =
    let out : p a ≡ false = among a (omega arith) in
    rw out (rising-filter n (a + 1) [] p tt tt (λ q h. among q (omega arith)))
rising-filter (suc n) a (y ∷ ys) p up within among =
    elim (cases_Bool (a == y)) [
      | inl same ↦
          let is : a ≡ y = grind (arith, nat_tests) in
          let head : p a ≡ true = among a (omega arith) ∙ rw same refl in
          let rest = rw (shifted a n) at (above_between a y (a + suc n) ys (omega arith) up.0 within.1) in
          let later : (q : ℕ) → a + 1 ≤ q → p q ≡ list_any (λ z. q == z) ys =
          λ q h. among q (omega arith) ∙ (let apart : (q == y) ≡ false = grind (arith, nat_tests) in rw apart refl) in
          rw head (joined a y ys (filter p (range_with_len (a + 1) n)) is (rising-filter n (a + 1) ys p up.1 rest later))
      | inr other ↦
          let low : a < y = grind (arith, nat_tests, within.0.0) in
          let out : p a ≡ false = among a (omega arith) ∙ absent a (y ∷ ys) (low, above_trans a y ys low up.0) in
          let rest = rw (shifted a n) at (above_between a y (a + suc n) ys (omega arith) up.0 within.1) in
          rw out (rising-filter n (a + 1) (y ∷ ys) p up ((omega arith, omega (arith, within.0.1)), rest) (λ q h. among q (omega arith)))
    ]

lt_from_cmp : (x y : ℕ) → nat_cmp x y ≡ Less → x < y
lt_from_cmp x y h = grind (arith, nat_tests)

less_second : (a b : Arc) → a.0 ≡ b.0 → arc_cmp a b ≡ Less → a.1 < b.1
less_second a b same less =
    let tie : nat_cmp a.0 b.0 ≡ Equal = rw same (tied_itself nat_cmp_total b.0) in
    lt_from_cmp a.1 b.1 (rw tie at less)

ends_above : (u : ℕ) (a : Arc) (bs : List Arc) → a.0 ≡ u → AllByRecursion (λ b. arc_cmp a b ≡ Less) bs → AllByRecursion (λ z. a.1 < z) (ends_from u bs)
ends_above u a [] same above = tt
ends_above u a (b ∷ bs) same above =
    elim (cases_Bool (b.0 == u)) [
      | inl here ↦ rw here ((let is : a.0 ≡ b.0 = grind (arith, nat_tests) in less_second a b is above.0), ends_above u a bs same above.1)
      | inr other ↦ rw other (ends_above u a bs same above.1)
    ]

pub ends-rise : (u : ℕ) (arcs : List Arc) → IsStrictlySortedBy arc_cmp arcs → Rises (ends_from u arcs)
unfolding IsStrictlySortedBy
ends-rise u [] sorted = tt
ends-rise u (a ∷ arcs) sorted =
    elim (cases_Bool (a.0 == u)) [
      | inl here ↦ rw here ((let is : a.0 ≡ u = grind (arith, nat_tests) in ends_above u a arcs is sorted.0), ends-rise u arcs sorted.1)
      | inr other ↦ rw other (ends-rise u arcs sorted.1)
    ]

pub ends-among : (u w : ℕ) (arcs : List Arc) → list_any (leads u w) arcs ≡ list_any (λ z. w == z) (ends_from u arcs)
ends-among u w [] = refl
ends-among u w (a ∷ arcs) =
    elim (cases_Bool (a.0 == u)) [
      | inl here ↦ let back : (u == a.0) ≡ true = nat_eq_equiv.symm u a.0 ∙ here in rw (here, back, ends-among u w arcs)
      | inr other ↦ let back : (u == a.0) ≡ false = nat_eq_equiv.symm u a.0 ∙ other in rw (other, back, ends-among u w arcs)
    ]

pub ends-between : (u n : ℕ) (arcs : List Arc) → AllByRecursion (λ a. a.1 < n) arcs → AllBetween 0 (0 + n) (ends_from u arcs)
ends-between u n [] within = tt
ends-between u n (a ∷ arcs) within =
    elim (cases_Bool (a.0 == u)) [
      | inl here ↦ rw here ((omega arith, omega (arith, within.0)), ends-between u n arcs within.1)
      | inr other ↦ rw other (ends-between u n arcs within.1)
    ]

pub ends-neighbours : (n u : ℕ) (links arcs : List Arc) → IsPermutation (arcs_of links) arcs → IsStrictlySortedBy arc_cmp arcs → AllByRecursion (λ a. a.1 < n) arcs
    → ends_from u arcs ≡ linked_with n links u
ends-neighbours n u links arcs moved sorted within =
    rising-filter n 0 (ends_from u arcs) (are_linked links u) (ends-rise u arcs sorted) (ends-between u n arcs within)
    (λ q h. are_linked-arcs links u q ∙ list_any-IsPermutation (leads u q) (arcs_of links) arcs moved ∙ ends-among u q arcs)

-- the arcs of links within n lead from a node below n to one
within_arcs : (n : ℕ) (links : List Arc) → AllWithin n links → AllWithin n (arcs_of links)
within_arcs n [] within = tt
within_arcs n (l ∷ ls) within = (within.0, ((within.0.1, within.0.0), within_arcs n ls within.1))

pub arcs_within : (n : ℕ) (links arcs : List Arc) → AllWithin n links → IsPermutation (arcs_of links) arcs → AllWithin n arcs
arcs_within n links arcs within moved =
    let P : Arc → Type 0 = λ a. (a.0 < n) × (a.1 < n) in
    recursion_from_All P arcs (All-permutation P (arcs_of links) arcs moved (All-from_recursion P (arcs_of links) (within_arcs n links within)))

pub from_within : (n : ℕ) (arcs : List Arc) → AllWithin n arcs → AllByRecursion (λ a. a.0 < n) arcs
from_within n [] within = tt
from_within n (a ∷ arcs) within = (within.0.0, from_within n arcs within.1)

pub to_within : (n : ℕ) (arcs : List Arc) → AllWithin n arcs → AllByRecursion (λ a. a.1 < n) arcs
to_within n [] within = tt
to_within n (a ∷ arcs) within = (within.0.1, to_within n arcs within.1)

first_le : (a b : Arc) → arc_cmp a b ≡ Less → a.0 ≤ b.0
first_le a b less =
    elim (cases_Bool (nat_lt b.0 a.0)) [
      | inl past ↦ let more : nat_cmp a.0 b.0 ≡ Greater = grind (arith, nat_tests) in let bad = rw more at less in cc
      | inr low ↦ grind (arith, nat_tests)
    ]

no_fall : (arcs : List Arc) → IsStrictlySortedBy arc_cmp arcs → (k : ℕ) (d : Arc) → k + 1 < length arcs → (get_or arcs k d).0 ≤ (get_or arcs (k + 1) d).0
unfolding IsStrictlySortedBy
no_fall [] sorted k d h = absurd (omega arith)
no_fall (a ∷ []) sorted k d h = absurd (omega arith)
no_fall (a ∷ b ∷ arcs) sorted zero d h = first_le a b sorted.0.0
no_fall (a ∷ b ∷ arcs) sorted (suc k) d h = rw at_next (no_fall (b ∷ arcs) sorted.1 k d (omega arith)) where
  at_next : suc k + 1 ≡ suc (k + 1)
  at_next = omega arith

pub non_decreasing : (arcs : List Arc) → IsStrictlySortedBy arc_cmp arcs → IsNonDecreasingBy (λ a. a.0) arcs
non_decreasing arcs sorted =
    IsNonDecreasingBy-from_sort (λ a. a.0) arcs (λ k d low h. not_less (get_or arcs k d).0 (get_or arcs (k + 1) d).0 (no_fall arcs sorted k d h)) where
      not_less : (x y : ℕ) → x ≤ y → is_lt (nat_cmp y x) ≡ false
      not_less x y h = grind (arith, nat_tests)

-- Arcs stand twice just where links do.
use Rattle.std.proofs.Common.{◌≡◌, ℕ, ◌+◌, ◌<◌, ◌==◌, Bool, true, false, ◌&&◌, ◌||◌, List, [], ◌∷◌, length, get_or, zero, suc, add-one, Ordering, Less, Equal, Greater, is_eq, nat_cmp, refl, sym, ap, ◌∙◌, ◌++◌, append_assoc, arith, inl, inr}
use Rattle.std.proofs.lemmas.Bool.{or_cases, or_parts, cases_Bool}
use Rattle.std.proofs.lemmas.Map.Keys.{IsDistinct-head, IsDistinct-tail, IsDistinct-IsPermutation, IsDistinct-from_sorted, sorted_from_all_adjacent}
use Rattle.std.proofs.lemmas.List.Sorted.{IsPermutation-sym}
use Rattle.std.proofs.lemmas.Cmp.{nat_cmp_total}
use Rattle.std.specs.Cmp.{IsTotalOrder, then_total, on_total, both_tied, unsigned_ties, nat_eq_equiv}
use Rattle.std.specs.Ordering.{is_lt, eq_by_cmp, ordering_reverse, ordering_then}
use Rattle.std.specs.List.Sorted.{IsPermutation, IsSorted, IsStrictlySortedBy}
use Rattle.std.specs.List.{list_any, AllByRecursion, IsDistinct}
use Rattle.link_net.specs.Links.{is_self_link, joins, has_link_twice, are_linked}
use Rattle.link_net.specs.Arcs.{Arc, arcs_of, leads, same_arc, arc_cmp, repeats, repeats_after}

-- tests joined in another order
or_assoc : (a b c : Bool) → ((a || b) || c) ≡ (a || (b || c))
or_assoc true b c = refl
or_assoc false b c = refl

-- two nodes are linked where there is an arc from the one to the other
pub are_linked-arcs : (links : List Arc) (u w : ℕ) → are_linked links u w ≡ list_any (leads u w) (arcs_of links)
are_linked-arcs [] u w = refl
are_linked-arcs (l ∷ ls) u w =
    ap (λ r. joins u w l || r) (are_linked-arcs ls u w) ∙ or_assoc (leads u w l) (leads u w (l.1, l.0, l.2)) (list_any (leads u w) (arcs_of ls))

turned : (a b c d : Bool) → ((a && b) || (c && d)) ≡ ((d && c) || (b && a))
turned true true true true = refl
turned true true true false = refl
turned true true false true = refl
turned true true false false = refl
turned true false true true = refl
turned true false true false = refl
turned true false false true = refl
turned true false false false = refl
turned false true true true = refl
turned false true true false = refl
turned false true false true = refl
turned false true false false = refl
turned false false true true = refl
turned false false true false = refl
turned false false false true = refl
turned false false false false = refl

-- a link has no direction
pub joins-sym : (u w : ℕ) (l : Arc) → joins u w l ≡ joins w u l
joins-sym u w l = turned (u == l.0) (w == l.1) (u == l.1) (w == l.0)

-- nor have links
pub are_linked_sym : (links : List Arc) (u w : ℕ) → are_linked links u w ≡ are_linked links w u
are_linked_sym [] u w = refl
are_linked_sym (l ∷ ls) u w = rw (joins-sym u w l, are_linked_sym ls u w)

flip_and : (a b c d : Bool) → a ≡ c → b ≡ d → (a && b) ≡ (c && d)
flip_and a b c d p q = rw (p, q)

pub same_arc_flips : (a b : Arc) → same_arc a b ≡ same_arc b a
same_arc_flips a b = flip_and (a.0 == b.0) (a.1 == b.1) (b.0 == a.0) (b.1 == a.1) (nat_eq_equiv.symm a.0 b.0) (nat_eq_equiv.symm a.1 b.1)

none_pass : {K : Type 0} (p : K → Bool) (xs : List K) → list_any p xs ≡ false → AllByRecursion (λ y. p y ≡ false) xs
none_pass p [] h = tt
none_pass p (x ∷ xs) h = let parts = or_parts (p x) (list_any p xs) h in (parts.0, none_pass p xs parts.1)

none_passes : {K : Type 0} (p : K → Bool) (xs : List K) → AllByRecursion (λ y. p y ≡ false) xs → list_any p xs ≡ false
none_passes p [] h = refl
none_passes p (x ∷ xs) h = rw (h.0) (none_passes p xs h.1)

-- links that stand once have arcs that differ
pub IsDistinct-arcs : (links : List Arc) → list_any is_self_link links ≡ false → has_link_twice links ≡ false → IsDistinct same_arc (arcs_of links)
unfolding IsDistinct
IsDistinct-arcs [] straight once = tt
IsDistinct-arcs (l ∷ ls) straight once =
    let (apart, others) = or_parts (is_self_link l) (list_any is_self_link ls) straight in
    let (new, rest) = or_parts (list_any (joins l.0 l.1) ls) (has_link_twice ls) once in
    let there : list_any (same_arc l) (arcs_of ls) ≡ false = sym (are_linked-arcs ls l.0 l.1) ∙ new in
    let back : list_any (same_arc (l.1, l.0, l.2)) (arcs_of ls) ≡ false = sym (are_linked-arcs ls l.1 l.0) ∙ are_linked_sym ls l.1 l.0 ∙ new in
    let differ : same_arc l (l.1, l.0, l.2) ≡ false = rw apart refl in
    ((differ, none_pass (same_arc l) (arcs_of ls) there), (none_pass (same_arc (l.1, l.0, l.2)) (arcs_of ls) back, IsDistinct-arcs ls others rest))

clash : (b : Bool) → b ≡ true → b ≡ false → ⊥
clash b t f = cc

-- a link that stands twice has an arc that does
pub not-IsDistinct-arcs : (links : List Arc) → has_link_twice links ≡ true → IsDistinct same_arc (arcs_of links) → ⊥
not-IsDistinct-arcs [] twice distinct = clash false twice refl
not-IsDistinct-arcs (l ∷ ls) twice distinct =
    let head = IsDistinct-head same_arc l ((l.1, l.0, l.2) ∷ arcs_of ls) distinct in
    let tail = IsDistinct-tail same_arc (l.1, l.0, l.2) (arcs_of ls) (IsDistinct-tail same_arc l ((l.1, l.0, l.2) ∷ arcs_of ls) distinct) in
    elim (or_cases (list_any (joins l.0 l.1) ls) (has_link_twice ls) twice) [
      | inl again ↦ clash _ (sym (are_linked-arcs ls l.0 l.1) ∙ again) (none_passes (same_arc l) (arcs_of ls) head.1)
      | inr later ↦ not-IsDistinct-arcs ls later tail
    ]

same_arc-cmp : (a b : Arc) → same_arc a b ≡ is_eq (arc_cmp a b)
same_arc-cmp a b = both_tied (a.0 == b.0) (a.1 == b.1) (nat_cmp a.0 b.0) (nat_cmp a.1 b.1) (unsigned_ties a.0 b.0) (unsigned_ties a.1 b.1)

arc_total : IsTotalOrder arc_cmp
arc_total = then_total (on_total (λ t. t.0) nat_cmp_total) (on_total (λ t. t.1) nat_cmp_total)

-- equal neighbours in the list are no distinct arcs
repeats_after-distinct : (a : Arc) (arcs : List Arc) → repeats_after a arcs ≡ true → IsDistinct same_arc (a ∷ arcs) → ⊥
repeats_after-distinct a [] again distinct = clash false again refl
repeats_after-distinct a (b ∷ bs) again distinct =
    elim (or_cases (same_arc b a) (repeats_after b bs) again) [
      | inl same ↦ clash _ (same_arc_flips a b ∙ same) (IsDistinct-head same_arc a (b ∷ bs) distinct).0
      | inr later ↦ repeats_after-distinct b bs later (IsDistinct-tail same_arc a (b ∷ bs) distinct)
    ]

pub repeats-distinct : (arcs : List Arc) → repeats arcs ≡ true → IsDistinct same_arc arcs → ⊥
repeats-distinct [] again distinct = clash false again refl
repeats-distinct (a ∷ arcs) again distinct = repeats_after-distinct a arcs again distinct

differs_after : (a d : Arc) (arcs : List Arc) (k : ℕ) → repeats_after a arcs ≡ false → k < length arcs → same_arc (get_or arcs k d) (get_or (a ∷ arcs) k d) ≡ false
differs_after a d [] k none h = absurd (omega arith)
differs_after a d (b ∷ bs) zero none h = (or_parts (same_arc b a) (repeats_after b bs) none).0
differs_after a d (b ∷ bs) (suc k) none h = differs_after b d bs k (or_parts (same_arc b a) (repeats_after b bs) none).1 (omega arith)

less_from : (o p : Ordering) → o ≡ ordering_reverse p → is_lt p ≡ false → is_eq p ≡ false → o ≡ Less
less_from o Less e low same = cc
less_from o Equal e low same = cc
less_from o Greater e low same = e

-- sorted arcs with no two equal in a row strictly rise
pub rising : (arcs : List Arc) → IsSorted arc_cmp arcs → repeats arcs ≡ false → IsStrictlySortedBy arc_cmp arcs
unfolding IsStrictlySortedBy
rising [] sorted none = tt
rising (a ∷ arcs) sorted none = sorted_from_all_adjacent arc_total (a ∷ arcs) a (λ k h.
    let x = get_or (a ∷ arcs) k a in
    let y = get_or arcs k a in
    let next : get_or (a ∷ arcs) (k + 1) a ≡ y = rw add-one refl in
    let low : is_lt (arc_cmp y x) ≡ false = rw next at (sorted k a (omega arith) h) in
    let same : is_eq (arc_cmp y x) ≡ false = sym (same_arc-cmp y x) ∙ differs_after a a arcs k none (omega arith) in
    rw next (less_from (arc_cmp x y) (arc_cmp y x) (arc_total.antisymm x y) low same))

distinct_from_rising : (arcs : List Arc) → IsDistinct (eq_by_cmp arc_cmp) arcs → IsDistinct same_arc arcs
unfolding IsDistinct
distinct_from_rising [] h = tt
distinct_from_rising (a ∷ arcs) h = (differ arcs h.0, distinct_from_rising arcs h.1) where
  differ : (bs : List Arc) → AllByRecursion (λ b. eq_by_cmp arc_cmp a b ≡ false) bs → AllByRecursion (λ b. same_arc a b ≡ false) bs
  differ [] k = tt
  differ (b ∷ bs) k = (same_arc-cmp a b ∙ k.0, differ bs k.1)

-- arcs in order, with their weights last, are in order by their ends
least_first : (p q : Ordering) → is_lt (ordering_then p q) ≡ false → is_lt p ≡ false
least_first Less q h = h
least_first Equal q h = refl
least_first Greater q h = refl

pub sorted_by_ends : (arcs : List Arc) → IsSorted (λ a b. ordering_then (arc_cmp a b) (nat_cmp a.2 b.2)) arcs → IsSorted arc_cmp arcs
sorted_by_ends arcs sorted k d low high =
    let x = get_or arcs k d in
    let y = get_or arcs (k + 1) d in
    least_first (arc_cmp y x) (nat_cmp y.2 x.2) (sorted k d low high)

-- the answer of the test on the sorted arcs is that on the links
pub once : (links sorted : List Arc) → IsPermutation (arcs_of links) sorted → IsSorted arc_cmp sorted → repeats sorted ≡ false → has_link_twice links ≡ false
once links sorted moved order none =
    let distinct = distinct_from_rising sorted (IsDistinct-from_sorted arc_cmp sorted (rising sorted order none)) in
    let before = IsDistinct-IsPermutation same_arc same_arc_flips sorted (arcs_of links) (IsPermutation-sym (arcs_of links) sorted moved) distinct in
    elim (cases_Bool (has_link_twice links)) [
      | inl twice ↦ absurd (not-IsDistinct-arcs links twice before)
      | inr single ↦ single
    ]

pub twice : (links sorted : List Arc) → list_any is_self_link links ≡ false → IsPermutation (arcs_of links) sorted → repeats sorted ≡ true → has_link_twice links ≡ true
twice links sorted straight moved again =
    elim (cases_Bool (has_link_twice links)) [
      | inl double ↦ double
      | inr single ↦ absurd (repeats-distinct sorted again (IsDistinct-IsPermutation same_arc same_arc_flips (arcs_of links) sorted moved (IsDistinct-arcs links straight single)))
    ]

-- two more arcs
pub two_more : (done rest : List Arc) (a b : Arc) → ((done ++ a ∷ []) ++ b ∷ []) ++ rest ≡ done ++ a ∷ b ∷ rest
two_more done rest a b = append_assoc (done ++ a ∷ []) (b ∷ []) rest ∙ append_assoc done (a ∷ []) (b ∷ rest)

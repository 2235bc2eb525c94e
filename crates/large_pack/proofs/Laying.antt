-- The lists made of the sorted arcs hold a network that has the arcs.
use Rattle.std.proofs.Common.{◌≡◌, ◌∙◌, ℕ, ◌+◌, ◌-◌, ◌<◌, ◌≤◌, ◌==◌, true, false, List, [], ◌∷◌, length, get_or, not, nat_lt, refl, sym, ap, map, take, drop, subst, Ordering, Less, Equal, Greater, nat_cmp, arith, inl, inr}
use Rattle.std.proofs.lemmas.Bool.{cases_Bool}
use Rattle.std.proofs.lemmas.Bool.Decides.{nat_tests}
use Rattle.std.specs.Cmp.{IsTotalOrder, tied_itself, then_total, on_total}
use Rattle.std.proofs.lemmas.Cmp.{nat_cmp_total}
use Rattle.std.specs.Ordering.{is_lt, ordering_then}
use Rattle.std.specs.List.{All, zip}
use Rattle.std.specs.List.Sorted.{IsPermutation, IsSorted, IsNonDecreasingBy}
use Rattle.std.proofs.lemmas.List.{length-map, get_or_past, get_or-map, take-map, drop-map}
use Rattle.std.proofs.lemmas.List.Elements.{All-from_recursion, recursion_from_All, All-filter, filter_passes}
use Rattle.std.proofs.lemmas.List.Filters.{length-filter_both}
use Rattle.std.proofs.lemmas.List.FromFn.{length-map-range_with_len, get_or-map-range_with_len}
use Rattle.std.proofs.lemmas.List.Kept.{IsSortedBy-filter}
use Rattle.std.proofs.lemmas.List.Sorted.{All-permutation, IsPermutation-map, IsNonDecreasingBy-from_sort, ranks_by, length_permutation}
use Rattle.link_net.specs.Limits.{most_rows}
use Rattle.link_net.specs.Neighbours.{Neighbours, AreRows, row, neighbour}
use Rattle.link_net.specs.Links.{AllWithin}
use Rattle.link_net.specs.Arcs.{Arc, arc_cmp, IsFirst}
use Rattle.link_net.specs.Layout.{part, rows_of, AreOffsets}
use Rattle.large_net.specs.Large.{AreLaidOut}
use Rattle.large_pack.specs.Rows.{ends_from, end_cmp, HasArcs}
use Rattle.large_pack.proofs.Permuting.{filter_moved}
use Rattle.large_pack.proofs.Offsets.{from_node, part_is, are_offsets}

-- what a row shows of an arc
abbrev shown : Arc → ℕ × ℕ
shown a = (a.1, a.2)

-- the order of a sort of arcs
abbrev pub full_cmp : Arc → Arc → Ordering
full_cmp a b = ordering_then (arc_cmp a b) (nat_cmp a.2 b.2)

least_first : (first second : Ordering) → is_lt (ordering_then first second) ≡ false → is_lt first ≡ false
least_first Less second h = h
least_first Equal second h = refl
least_first Greater second h = refl

-- sorted arcs come from nodes that do not fall
pub by_node : (arcs : List Arc) → IsSorted full_cmp arcs → IsNonDecreasingBy (λ a. a.0) arcs
by_node arcs sorted =
    IsNonDecreasingBy-from_sort (λ a. a.0) arcs (λ k d low high.
    let x = get_or arcs k d in
    let y = get_or arcs (k + 1) d in
    least_first (nat_cmp y.0 x.0) (nat_cmp y.1 x.1) (least_first (arc_cmp y x) (nat_cmp y.2 x.2) (sorted k d low high)))

full_total : IsTotalOrder full_cmp
full_total = then_total (then_total (on_total (λ (a : Arc). a.0) nat_cmp_total) (on_total (λ (a : Arc). a.1) nat_cmp_total)) (on_total (λ (a : Arc). a.2) nat_cmp_total)

ends_ordered : (u : ℕ) (x y : Arc) → x.0 ≡ u → y.0 ≡ u → is_lt (full_cmp y x) ≡ false → is_lt (end_cmp (shown y) (shown x)) ≡ false
ends_ordered u x y here there h =
    let tie : nat_cmp y.0 x.0 ≡ Equal = rw (here, there) (tied_itself nat_cmp_total u) in
    rw tie at h

passes : (u : ℕ) (a : Arc) → (a.0 == u) ≡ true → a.0 ≡ u
passes u a h = grind (arith, nat_tests)

-- the ends of the arcs from a node, in the order of the arcs
ends_sorted : (u : ℕ) (arcs : List Arc) → IsSorted full_cmp arcs → IsSorted end_cmp (ends_from u arcs)
ends_sorted u arcs sorted k d low high =
    let xs = from_node u arcs in
    let e : Arc = (0, 0, 0) in
    let short : k + 1 < length xs = omega (arith, length-map xs shown) in
    let order = IsSortedBy-filter (λ x y. is_lt (full_cmp x y)) (ranks_by full_total (λ (a : Arc). a)) (λ a. a.0 == u) arcs sorted in
    let all : All (λ (a : Arc). (a.0 == u) ≡ true) xs = filter_passes (λ (a : Arc). a.0 == u) arcs in
    rw (get_or-map shown xs (k + 1) e d short, get_or-map shown xs k e d (omega arith))
    (ends_ordered u (get_or xs k e) (get_or xs (k + 1) e) (passes u (get_or xs k e) (all k e (omega arith))) (passes u (get_or xs (k + 1) e) (all (k + 1) e short)) (order k e (omega arith) short))

zip_columns : (arcs : List Arc) → zip (map (λ a. a.1) arcs) (map (λ a. a.2) arcs) ≡ map shown arcs
zip_columns [] = refl
zip_columns (a ∷ arcs) = ap (λ t. shown a ∷ t) (zip_columns arcs)

-- a part of a mapped list
map_part : {X Y : Type 0} (f : X → Y) (offsets : List ℕ) (items : List X) (u : ℕ) → map f (part offsets items u) ≡ part offsets (map f items) u
map_part f offsets items u =
    let i = get_or offsets u 0 in
    let j = get_or offsets (u + 1) 0 in
    sym (take-map f (j - i) (drop i items)) ∙ ap (take (j - i)) (sym (drop-map f i items))

to_within : (n : ℕ) (arcs : List Arc) → AllWithin n arcs → All (λ a. a.1 < n) arcs
to_within n arcs within k d low = (All-from_recursion (λ (a : Arc). (a.0 < n) × (a.1 < n)) arcs within k d low).1

-- the given arcs in order, and the places at which each node's begin
pub record AreTables (n : ℕ) (given arcs : List Arc) (offsets : List ℕ) : Type 0 where
  pub within : AllWithin n given
  pub few : length given ≤ most_rows
  pub moved : IsPermutation given arcs
  pub sorted : IsSorted full_cmp arcs
  pub count : length offsets ≡ n + 1
  pub firsts : (u : ℕ) → u < length offsets → IsFirst arcs u (get_or offsets u 0)

-- arcs in another order lie between the same nodes
pub within_moved : (n : ℕ) (given arcs : List Arc) → AllWithin n given → IsPermutation given arcs → AllWithin n arcs
within_moved n given arcs within moved =
    let P : Arc → Type 0 = λ a. (a.0 < n) × (a.1 < n) in
    recursion_from_All P arcs (All-permutation P given arcs moved (All-from_recursion P given within))

module _ (n : ℕ) (given arcs : List Arc) (offsets : List ℕ) (made : AreTables n given arcs offsets) where
  inside : AllWithin n arcs
  inside = within_moved n given arcs made.within made.moved

  placed : AreOffsets offsets (length arcs)
  placed = are_offsets arcs offsets n made.count made.firsts inside

  abbrev targets : List ℕ
  targets = map (λ a. a.1) arcs

  abbrev weights : List ℕ
  weights = map (λ a. a.2) arcs

  abbrev network : Neighbours
  network = rows_of offsets targets weights

  part_shows : (u : ℕ) → u < n → part offsets (zip targets weights) u ≡ ends_from u arcs
  part_shows u low =
      ap (λ xs. part offsets xs u) (zip_columns arcs) ∙ sym (map_part shown offsets arcs u)
      ∙ ap (map shown) (part_is arcs u _ _ (made.firsts u (omega (arith, made.count))) (made.firsts (u + 1) (omega (arith, made.count))))

  pub counted : length network ≡ n
  counted = length-map-range_with_len (part offsets (zip targets weights)) 0 (length offsets - 1) ∙ omega (arith, made.count)

  row_is : (u : ℕ) → u < n → row network u ≡ ends_from u arcs
  row_is u low = get_or-map-range_with_len (part offsets (zip targets weights)) 0 (length offsets - 1) u u [] (omega (arith, made.count)) (omega arith) ∙ part_shows u low

  short : (u : ℕ) → u < n → length (row network u) ≤ most_rows
  short u low =
      omega (
        arith,
        ap length (row_is u low),
        length-map (from_node u arcs) shown,
        length-filter_both (λ (a : Arc). a.0 == u) (λ (a : Arc). not (a.0 == u)) (λ a. refl) arcs,
        length_permutation given arcs made.moved,
        made.few,
      )

  none : (u : ℕ) → n ≤ u → length (row network u) ≡ 0
  none u high = ap length (get_or_past network u [] (omega (arith, counted)))

  leads_within : (u j : ℕ) → u < n → j < length (row network u) → neighbour network u j < n
  leads_within u j low high =
      let xs = from_node u arcs in
      let long : j < length xs = omega (arith, ap length (row_is u low), length-map xs shown) in
      let all = All-filter (λ (a : Arc). a.0 == u) (λ (a : Arc). a.1 < n) arcs (to_within n arcs inside) in
      let here : (get_or (map shown xs) j (0, 0)).0 < n = rw (get_or-map shown xs j (0, 0, 0) (0, 0) long) (all j (0, 0, 0) long) in
      subst (λ (r : List (ℕ × ℕ)). (get_or r j (0, 0)).0 < n) (sym (row_is u low)) here

  are_rows : n ≤ most_rows → AreRows network
  are_rows some = record {
    nodes = rw counted some;
    degrees = λ u.
        elim (cases_Bool (nat_lt u n)) [
          | inl low ↦ short u (grind (arith, nat_tests))
          | inr high ↦ omega (arith, none u (grind (arith, nat_tests)))
        ];
    within = λ u j high.
        elim (cases_Bool (nat_lt u n)) [
          | inl low ↦ rw counted (leads_within u j (grind (arith, nat_tests)) high)
          | inr past ↦ absurd (omega (arith, none u (grind (arith, nat_tests))))
        ];
  }

  -- the lists hold a network
  pub laid : 1 ≤ n → n ≤ most_rows → AreLaidOut offsets targets weights
  laid some most = record {
    some = omega (arith, made.count);
    held = record {
      placed = rw (length-map arcs (λ (a : Arc). a.1)) placed;
      paired = length-map arcs (λ a. a.2) ∙ sym (length-map arcs (λ a. a.1));
      rows = are_rows most;
    };
  }

  -- and it has the arcs
  pub has_arcs : HasArcs n given network
  has_arcs = record {
    count = counted;
    rows = λ u low. rw (row_is u low) (IsPermutation-map shown (from_node u given) (from_node u arcs) (filter_moved (λ (a : Arc). a.0 == u) given arcs made.moved));
    rising = λ u low. rw (row_is u low) (ends_sorted u arcs made.sorted);
  }

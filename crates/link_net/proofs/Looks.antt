-- What a network laid out in three lists shows.
use Rattle.std.proofs.Common.{◌≡◌, ◌∙◌, ℕ, ◌+◌, ◌-◌, ◌*◌, ◌<◌, ◌≤◌, ◌↔◌, List, [], length, get_or, zero, suc, nat_lt, refl, sym, ap, subst, map, Option, Some, None, option_map, IfSome, Bor, arith, inl, inr, Result, Ok, Err, nat_cmp}
use Rattle.std.specs.Result.{result_ok}
use Rattle.std.specs.List.{sum_by, zip, slice_get}
use Rattle.std.specs.List.Sorted.{IsStrictlyIncreasing, IsBinarySearchResult}
use Rattle.std.proofs.lemmas.Bool.{cases_Bool}
use Rattle.std.proofs.lemmas.Bool.Decides.{nat_tests}
use Rattle.std.proofs.lemmas.List.{length-map, get_or-map}
use Rattle.std.proofs.lemmas.List.FromFn.{length-map-range_with_len}
use Rattle.std.proofs.lemmas.List.Sorted.{searched}
use Rattle.std.proofs.lemmas.Option.{slice_get-map, slice_get_within, slice_get-get_or, get_or_from_slice_get}
use Rattle.link_net.specs.Neighbours.{Neighbours, IsNetwork, degree, neighbour, neighbour_at}
use Rattle.link_net.specs.Layout.{part, rows_of, AreOffsets, IsLaidOut}
use Rattle.link_net.proofs.Parts.{length_zip, sum_parts}

module _ (offsets ns ws : List ℕ) where
  pub rows_count : length (rows_of offsets ns ws) ≡ length offsets - 1
  rows_count = length-map-range_with_len (part offsets (zip ns ws)) 0 (length offsets - 1)

  pub rows_sum : length ws ≡ length ns → AreOffsets offsets (length ns) → sum_by length (rows_of offsets ns ws) ≡ length ns
  rows_sum same good =
      let long = length_zip ns ws same in
      sum_parts offsets (zip ns ws) (rw long good) ∙ long

  pub few_nodes : IsLaidOut offsets ns ws → length offsets ≤ 65537
  few_nodes laid = omega (arith, laid.network.nodes, rows_count)

  pub half_links : IsLaidOut offsets ns ws → (k : ℕ) × (k ≤ 262144) × (2 * k ≡ length ns)
  half_links laid =
      let links = laid.network.links in
      (links.0, links.1, links.2 ∙ rows_sum laid.paired laid.placed)

-- the value in a `Some` that is a column of a row
pub column : {Y : Type 0} (f : ℕ × ℕ → ℕ) (xs : List ℕ) (net : Neighbours) (u : ℕ) → Some xs ≡ option_map (λ row. map f row) (slice_get net u)
    → ((row : List (ℕ × ℕ)) → slice_get net u ≡ Some row → xs ≡ map f row → Y) → Y
column {Y} f xs net u is use_row = at (slice_get net u) refl is where
  at : (o : Option (List (ℕ × ℕ))) → slice_get net u ≡ o → Some xs ≡ option_map (λ row. map f row) o → Y
  at None e same = absurd (none same) where
    none : Some xs ≡ None → ⊥
    none h = cc
  at (Some row) e same = use_row row e (some_same row same) where
    some_same : (row : List (ℕ × ℕ)) → Some xs ≡ Some (map f row) → xs ≡ map f row
    some_same row h = cc

pub column_short : (r : Option (Bor (List ℕ))) (f : ℕ × ℕ → ℕ) (net : Neighbours) (u : ℕ) → IsNetwork net
    → option_map (λ s. s.now) r ≡ option_map (λ row. map f row) (slice_get net u) → IfSome r (λ s. length s.now ≤ 4096)
column_short None f net u whole is = tt
column_short (Some s) f net u whole is =
    column f s.now net u is (λ row e same.
    omega (arith, ap length same, length-map row f, ap length (get_or_from_slice_get net u row [] e), whole.degrees u))

ends_at : (row : List (ℕ × ℕ)) (k : ℕ) → k < length row → get_or (map (λ a. a.0) row) k 0 ≡ (get_or row k (0, 0)).0
ends_at row k low = get_or-map (λ a. a.0) row k (0, 0) 0 low

abbrev RisesAt : Neighbours → ℕ → Type 0
RisesAt net u = (i j : ℕ) → i < j → j < degree net u → neighbour net u i < neighbour net u j

row_rises : (net : Neighbours) (u : ℕ) (row : List (ℕ × ℕ)) → RisesAt net u → slice_get net u ≡ Some row → IsStrictlyIncreasing (map (λ a. a.0) row)
row_rises net u row rising e k low =
    let is : get_or net u [] ≡ row = get_or_from_slice_get net u row [] e in
    let short : k + 1 < length row = omega (arith, length-map row (λ (a : ℕ × ℕ). a.0)) in
    let up = subst (λ (r : List (ℕ × ℕ)). k + 1 < length r → (get_or r k (0, 0)).0 < (get_or r (k + 1) (0, 0)).0) is (rising k (k + 1) (omega arith)) in
    let less = up short in
    omega (arith, less, ends_at row k (omega arith), ends_at row (k + 1) short)

pub column_rises : (r : Option (Bor (List ℕ))) (net : Neighbours) (u : ℕ) → RisesAt net u
    → option_map (λ s. s.now) r ≡ option_map (λ row. map (λ a. a.0) row) (slice_get net u) → IfSome r (λ s. IsStrictlyIncreasing s.now)
column_rises None net u rising is = tt
column_rises (Some s) net u rising is = column (λ a. a.0) s.now net u is (λ row e same. rw same (row_rises net u row rising e))

-- lists that rise from place to place rise
rises_to : (xs : List ℕ) (i j : ℕ) → IsStrictlyIncreasing xs → i < j → j < length xs → get_or xs i 0 < get_or xs j 0
rises_to xs i zero up low high = absurd (omega arith)
rises_to xs i (suc j) up low high =
    let next : suc j ≡ j + 1 = omega arith in
    let step : get_or xs j 0 < get_or xs (suc j) 0 = rw next (up j (omega arith)) in
    elim (cases_Bool (nat_lt i j)) [
      | inl before ↦ let less : i < j = grind (arith, nat_tests) in omega (arith, step, rises_to xs i j up less (omega arith))
      | inr here ↦ let is : i ≡ j = grind (arith, nat_tests) in rw is step
    ]

rises_or_same : (xs : List ℕ) (i j : ℕ) → IsStrictlyIncreasing xs → i ≤ j → j < length xs → get_or xs i 0 ≤ get_or xs j 0
rises_or_same xs i j up low high =
    elim (cases_Bool (nat_lt i j)) [
      | inl before ↦ let less : i < j = grind (arith, nat_tests) in omega (arith, rises_to xs i j up less high)
      | inr here ↦ let is : i ≡ j = grind (arith, nat_tests) in rw is (omega arith)
    ]

at_slot : (net : Neighbours) (u j : ℕ) (row : List (ℕ × ℕ)) (xs : List ℕ) → slice_get net u ≡ Some row → xs ≡ map (λ a. a.0) row → neighbour_at net u j ≡ slice_get xs j
at_slot net u j row xs e same = rw (e, same, slice_get-map)

abbrev IsSlot : Option ℕ → Neighbours → ℕ → ℕ → Type 0
IsSlot r net u w = (j : ℕ) → (r ≡ Some j) ↔ (neighbour_at net u j ≡ Some w)

place_is_one : (xs : List ℕ) (i j w : ℕ) → IsStrictlyIncreasing xs → i < length xs → get_or xs i 0 ≡ w → slice_get xs j ≡ Some w → i ≡ j
place_is_one xs i j w up low is there =
    let high = slice_get_within xs j w there in
    let also = get_or_from_slice_get xs j w 0 there in
    elim (cases_Bool (nat_lt i j)) [
      | inl before ↦ let less : i < j = grind (arith, nat_tests) in absurd (omega (arith, is, also, rises_to xs i j up less high))
      | inr past ↦ elim (cases_Bool (nat_lt j i)) [
        | inl after ↦ let less : j < i = grind (arith, nat_tests) in absurd (omega (arith, is, also, rises_to xs j i up less low))
        | inr same ↦ grind (arith, nat_tests)
      ]
    ]

some_is : (i j : ℕ) → ◌≡◌ {A = Option ℕ} (Some i) (Some j) → i ≡ j
some_is i j h = cc

none_is : (j : ℕ) → ◌≡◌ {A = Option ℕ} None (Some j) → ⊥
none_is j h = cc

slot_found : (xs : List ℕ) (net : Neighbours) (u w i : ℕ) → Some xs ≡ option_map (λ row. map (λ a. a.0) row) (slice_get net u) → IsStrictlyIncreasing xs
    → IsBinarySearchResult (λ y. nat_cmp y w) xs (Ok i) → IsSlot (Some i) net u w
slot_found xs net u w i is up search_gave j =
    let found = searched xs w (Ok i) search_gave (λ a b order high. rises_or_same xs a b up order high) in
    column (λ a. a.0) xs net u is (λ row e same. (
      λ h. at_slot net u j row xs e same ∙ ap (slice_get xs) (sym (some_is i j h)) ∙ slice_get-get_or xs i 0 found.0 ∙ ap Some found.1,
      λ h. ap Some (place_is_one xs i j w up found.0 found.1 (sym (at_slot net u j row xs e same) ∙ h)),
    ))

slot_missing : (xs : List ℕ) (net : Neighbours) (u w i : ℕ) → Some xs ≡ option_map (λ row. map (λ a. a.0) row) (slice_get net u) → IsStrictlyIncreasing xs
    → IsBinarySearchResult (λ y. nat_cmp y w) xs (Err i) → IsSlot None net u w
slot_missing xs net u w i is up search_gave j =
    let missed = searched xs w (Err i) search_gave (λ a b order high. rises_or_same xs a b up order high) in
    column (λ a. a.0) xs net u is (λ row e same. (
      λ h. absurd (none_is j h),
      λ h. absurd (not_there xs i j w missed.1 missed.2 (sym (at_slot net u j row xs e same) ∙ h)),
    )) where
      not_there : (xs : List ℕ) (i j w : ℕ) → ((k : ℕ) → k < i → get_or xs k 0 < w) → ((k : ℕ) → i ≤ k → k < length xs → w < get_or xs k 0) → slice_get xs j ≡ Some w → ⊥
      not_there xs i j w below above there =
          let high = slice_get_within xs j w there in
          let also = get_or_from_slice_get xs j w 0 there in
          elim (cases_Bool (nat_lt j i)) [
            | inl before ↦ let less : j < i = grind (arith, nat_tests) in omega (arith, also, below j less)
            | inr past ↦ let more : i ≤ j = grind (arith, nat_tests) in omega (arith, also, above j more high)
          ]

-- where the search for w ends, there is its slot
pub slot_is : (xs : List ℕ) (net : Neighbours) (u w : ℕ) (r : Result ℕ ℕ) (slot : Option ℕ) → Some xs ≡ option_map (λ row. map (λ a. a.0) row) (slice_get net u) → IsStrictlyIncreasing xs
    → IsBinarySearchResult (λ y. nat_cmp y w) xs r → slot ≡ result_ok r → (j : ℕ) → (slot ≡ Some j) ↔ (neighbour_at net u j ≡ Some w)
slot_is xs net u w (Ok i) slot is up ended same j = rw same (slot_found xs net u w i is up ended j)
slot_is xs net u w (Err i) slot is up ended same j = rw same (slot_missing xs net u w i is up ended j)

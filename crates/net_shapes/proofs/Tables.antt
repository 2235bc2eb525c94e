-- Rows that stand one after the other in one list.
use Rattle.std.proofs.Common.{◌≡◌, ◌∙◌, ℕ, ◌+◌, ◌-◌, ◌<◌, ◌≤◌, Bool, List, [], ◌∷◌, ◌++◌, length, get_or, zero, suc, nat_lt, refl, sym, ap, map, take, drop, length-append, subst, arith, inl, inr, replicate}
use Rattle.std.proofs.Math.Seq.{drop-append_seam, take-append_seam}
use Rattle.std.specs.List.{AllByRecursion, filter, flat_map, range_with_len, slice_range, zip}
use Rattle.std.proofs.lemmas.Bool.{cases_Bool}
use Rattle.std.proofs.lemmas.Bool.Decides.{nat_tests}
use Rattle.std.proofs.lemmas.Grind.{flat_map-append}
use Rattle.std.proofs.lemmas.List.{length-map, take-map, drop-map, get_or-map, get_or_past, length-replicate, append-nil}
use Rattle.std.proofs.lemmas.List.Elements.{All-from_recursion}
use Rattle.std.proofs.lemmas.List.FromFn.{length-map-range_with_len, get_or-map-range_with_len, map-range_with_len_more}
use Rattle.std.proofs.lemmas.List.Sorted.{IsNonDecreasingBy-from_default}
use Rattle.link_net.specs.Limits.{most_rows}
use Rattle.link_net.specs.Neighbours.{numbers_below, AreRows}
use Rattle.link_net.specs.Layout.{part, rows_of, AreOffsets}
use Rattle.large_net.specs.Large.{AreLaidOut}
use Rattle.net_shapes.specs.Rows.{joined_with, joined_rows}
use Rattle.net_shapes.specs.Tables.{ends_before, starts, HoldBelow}

-- the numbers of a range and those after it
range_split : (a m k : ℕ) → range_with_len a (m + k) ≡ range_with_len a m ++ range_with_len (a + m) k
range_split a zero k = let one : 0 + k ≡ k = omega arith in let two : a + 0 ≡ a = omega arith in rw (one, two) refl
range_split a (suc m) k =
    let one : suc m + k ≡ suc (m + k) = omega arith in
    let two : a + suc m ≡ (a + 1) + m = omega arith in
    rw (one, two) (ap (λ xs. a ∷ xs) (range_split (a + 1) m k))

below_split : (n u : ℕ) → u < n → numbers_below n ≡ numbers_below u ++ u ∷ range_with_len (u + 1) (n - (u + 1))
below_split n u low =
    let whole : n ≡ u + suc (n - (u + 1)) = omega arith in
    let from_zero : 0 + u ≡ u = omega arith in
    ap numbers_below whole ∙ rw from_zero at (range_split 0 u (suc (n - (u + 1))))

module _ (rows : ℕ → List ℕ) where
  -- one more row
  pub ends_more : (u : ℕ) → ends_before rows (u + 1) ≡ ends_before rows u ++ rows u
  ends_more u =
      let from_zero : 0 + u ≡ u = omega arith in
      let more = rw from_zero at (range_split 0 u 1) in
      ap (flat_map rows) more ∙ flat_map-append rows (numbers_below u) (u ∷ []) ∙ ap (λ xs. ends_before rows u ++ xs) (append-nil (rows u))

  -- one more offset
  pub starts_more : (u : ℕ) → starts rows (u + 1) ≡ starts rows u ++ length (ends_before rows (u + 1)) ∷ []
  starts_more u = map-range_with_len_more (λ v. length (ends_before rows v)) 0 (u + 1) (u + 1) (omega arith)

  -- the table of one more node
  pub hold_more : (n k : ℕ) (offsets ends pushed later : List ℕ) → HoldBelow rows n offsets ends → later ≡ ends ++ rows n → k ≡ length later → pushed ≡ offsets ++ k ∷ [] → HoldBelow rows (n + 1) pushed later
  hold_more n k offsets ends pushed later before put many push =
      let filled : later ≡ ends_before rows (n + 1) = put ∙ ap (λ xs. xs ++ rows n) before.filled ∙ sym (ends_more n) in
      record { placed = push ∙ rw (before.placed, many, filled) (sym (starts_more n)); filled = filled }

  pub length_starts : (n : ℕ) → length (starts rows n) ≡ n + 1
  length_starts n = length-map-range_with_len (λ v. length (ends_before rows v)) 0 (n + 1)

  start_at : (n u : ℕ) → u < n + 1 → get_or (starts rows n) u 0 ≡ length (ends_before rows u)
  start_at n u low = get_or-map-range_with_len (λ v. length (ends_before rows v)) 0 (n + 1) u u 0 low (omega arith)

  ends_split : (n u : ℕ) → u < n → ends_before rows n ≡ ends_before rows u ++ (rows u ++ flat_map rows (range_with_len (u + 1) (n - (u + 1))))
  ends_split n u low = ap (flat_map rows) (below_split n u low) ∙ flat_map-append rows (numbers_below u) (u ∷ range_with_len (u + 1) (n - (u + 1)))

  no_fall : (i k : ℕ) → length (ends_before rows i) ≤ length (ends_before rows (i + k))
  no_fall i zero = let same : i + 0 ≡ i = omega arith in rw same (omega arith)
  no_fall i (suc k) =
      let next : i + suc k ≡ (i + k) + 1 = omega arith in
      rw (next, ends_more (i + k)) (omega (arith, no_fall i k, length-append (ends_before rows (i + k)) (rows (i + k))))

  -- the part between two offsets is the row
  row_between : (n u : ℕ) → u < n → slice_range (ends_before rows n) (length (ends_before rows u)) (length (ends_before rows (u + 1))) ≡ rows u
  row_between n u low =
      let front = ends_before rows u in
      let back = flat_map rows (range_with_len (u + 1) (n - (u + 1))) in
      let long : length (ends_before rows (u + 1)) - length front ≡ length (rows u) = omega (arith, ap length (ends_more u), length-append front (rows u)) in
      ap (λ xs. slice_range xs (length front) (length (ends_before rows (u + 1)))) (ends_split n u low)
      ∙ ap (take (length (ends_before rows (u + 1)) - length front)) (drop-append_seam front (rows u ++ back))
      ∙ ap (λ k. take k (rows u ++ back)) long ∙ take-append_seam (rows u) back

  pub part_is : (n u : ℕ) → u < n → part (starts rows n) (ends_before rows n) u ≡ rows u
  part_is n u low =
      ap (λ i. slice_range (ends_before rows n) i (get_or (starts rows n) (u + 1) 0)) (start_at n u (omega arith))
      ∙ ap (λ j. slice_range (ends_before rows n) (length (ends_before rows u)) j) (start_at n (u + 1) (omega arith))
      ∙ row_between n u low

  pub are_offsets : (n : ℕ) → AreOffsets (starts rows n) (length (ends_before rows n))
  are_offsets n = record {
    some = omega (arith, length_starts n);
    first = start_at n 0 (omega arith);
    last = ap (λ k. get_or (starts rows n) k 0) (let k : length (starts rows n) - 1 ≡ n = omega (arith, length_starts n) in k) ∙ start_at n n (omega arith);
    rising = IsNonDecreasingBy-from_default (λ x. x) (starts rows n) 0 (λ i j up high.
        let back : i + (j - i) ≡ j = omega arith in
        let rise = rw back at (no_fall i (j - i)) in
        omega (arith, rise, start_at n i (omega (arith, length_starts n)), start_at n j (omega (arith, length_starts n))));
  }

-- a number with weight 1
abbrev one : ℕ → ℕ × ℕ
one w = (w, 1)

-- numbers with weight 1
pub with_weights : (xs : List ℕ) → zip xs (replicate {A = ℕ} (length xs) 1) ≡ map one xs
with_weights [] = refl
with_weights (x ∷ xs) = ap (λ t. one x ∷ t) (with_weights xs)

-- a part of a mapped list
map_part : {X Y : Type 0} (f : X → Y) (offsets : List ℕ) (items : List X) (u : ℕ) → part offsets (map f items) u ≡ map f (part offsets items u)
map_part f offsets items u =
    let i = get_or offsets u 0 in
    let j = get_or offsets (u + 1) 0 in
    ap (take (j - i)) (drop-map f i items) ∙ take-map f (j - i) (drop i items)

-- functions that agree on the range
map_agrees : {X : Type 0} (f g : ℕ → X) (a n : ℕ) → ((u : ℕ) → a ≤ u → u < a + n → f u ≡ g u) → map f (range_with_len a n) ≡ map g (range_with_len a n)
map_agrees f g a zero same = refl
map_agrees f g a (suc n) same = rw (same a (omega arith) (omega arith), map_agrees f g (a + 1) n (λ u low high. same u (omega arith) (omega arith)))

pub filter_agrees : (p q : ℕ → Bool) (a n : ℕ) → ((u : ℕ) → a ≤ u → u < a + n → p u ≡ q u) → filter p (range_with_len a n) ≡ filter q (range_with_len a n)
filter_agrees p q a zero same = refl
filter_agrees p q a (suc n) same = rw (same a (omega arith) (omega arith), filter_agrees p q (a + 1) n (λ u low high. same u (omega arith) (omega arith))) refl

-- what a filter of a range keeps
kept_below : (p : ℕ → Bool) (a n : ℕ) → AllByRecursion (λ y. y < a + n) (filter p (range_with_len a n))
kept_below p a zero = tt
kept_below p a (suc n) =
    let rest = rw (later a n) at (kept_below p (a + 1) n) in
    elim (cases_Bool (p a)) [
      | inl keeps ↦ rw keeps (omega arith, rest)
      | inr drops ↦ rw drops rest
    ] where
      later : (a n : ℕ) → (a + 1) + n ≡ a + suc n
      later a n = omega arith

kept_few : (p : ℕ → Bool) (a n : ℕ) → length (filter p (range_with_len a n)) ≤ n
kept_few p a zero = omega arith
kept_few p a (suc n) =
    elim (cases_Bool (p a)) [
      | inl keeps ↦ rw keeps (omega (arith, kept_few p (a + 1) n))
      | inr drops ↦ rw drops (omega (arith, kept_few p (a + 1) n))
    ]

module _ (joins : ℕ → ℕ → Bool) (n : ℕ) where
  row_of : ℕ → List (ℕ × ℕ)
  row_of u = map one (joined_with joins n u)

  length_row : (u : ℕ) → length (row_of u) ≤ n
  unfolding row_of
  length_row u = omega (arith, length-map (joined_with joins n u) one, kept_few (joins u) 0 n)

  row_at : (u : ℕ) → u < n → get_or (joined_rows joins n) u [] ≡ row_of u
  unfolding row_of
  row_at u low = get_or-map-range_with_len row_of 0 n u u [] low (omega arith)

  count : length (joined_rows joins n) ≡ n
  count = length-map-range_with_len (λ u. map one (joined_with joins n u)) 0 n

  within_row : (u j : ℕ) → j < length (row_of u) → (get_or (row_of u) j (0, 0)).0 < n
  unfolding row_of
  within_row u j low =
      let short : j < length (joined_with joins n u) = omega (arith, low, length-map (joined_with joins n u) one) in
      let below = All-from_recursion (λ y. y < 0 + n) (joined_with joins n u) (kept_below (joins u) 0 n) j 0 short in
      rw (get_or-map one (joined_with joins n u) j 0 (0, 0) short) (omega (arith, below))

  at_node : (P : List (ℕ × ℕ) → Type 0) (u : ℕ) → ((u < n) → P (row_of u)) → P [] → P (get_or (joined_rows joins n) u [])
  at_node P u there none =
      elim (cases_Bool (nat_lt u n)) [
        | inl low ↦ let lt : u < n = grind (arith, nat_tests) in subst P (sym (row_at u lt)) (there lt)
        | inr high ↦ let ge : n ≤ u = grind (arith, nat_tests) in subst P (sym (get_or_past (joined_rows joins n) u [] (omega (arith, count)))) none
      ]

  pub are_rows : n ≤ most_rows → AreRows (joined_rows joins n)
  are_rows small = record {
    nodes = omega (arith, count);
    degrees = λ u. at_node (λ row. length row ≤ most_rows) u (λ low. omega (arith, length_row u)) (omega arith);
    within = λ u j. at_node (λ row. j < length row → (get_or row j (0, 0)).0 < length (joined_rows joins n)) u
        (λ low high. rw count (within_row u j high)) (λ high. absurd (omega (arith, high)));
  }

  -- the rows one after the other, each link with weight 1, are the network
  pub rows_are : rows_of (starts (joined_with joins n) n) (ends_before (joined_with joins n) n) (replicate (length (ends_before (joined_with joins n) n)) 1) ≡ joined_rows joins n
  rows_are =
      let rows = joined_with joins n in
      let items = ends_before rows n in
      let offsets = starts rows n in
      let nodes : length offsets - 1 ≡ n = omega (arith, length_starts rows n) in
      ap (λ k. map (part offsets (zip items (replicate (length items) 1))) (numbers_below k)) nodes
      ∙ map_agrees (part offsets (zip items (replicate (length items) 1))) (λ u. map one (rows u)) 0 n (λ u from low.
      ap (λ xs. part offsets xs u) (with_weights items) ∙ map_part one offsets items u ∙ ap (map one) (part_is rows n u (omega arith)))

  pub laid_out : 1 ≤ n → n ≤ most_rows → AreLaidOut (starts (joined_with joins n) n) (ends_before (joined_with joins n) n) (replicate (length (ends_before (joined_with joins n) n)) 1)
  laid_out some small = record {
    some = omega (arith, length_starts (joined_with joins n) n);
    held = record {
      placed = are_offsets (joined_with joins n) n;
      paired = length-replicate (length (ends_before (joined_with joins n) n)) 1;
      rows = rw rows_are (are_rows small);
    };
  }

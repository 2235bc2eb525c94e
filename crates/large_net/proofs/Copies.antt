-- Rows that are laid out one after the other.
use Rattle.std.proofs.Common.{◌≡◌, ◌∙◌, ℕ, ◌+◌, ◌-◌, ◌<◌, ◌≤◌, List, [], ◌∷◌, ◌++◌, length, get_or, zero, suc, refl, sym, ap, map, take, drop, arith}
use Rattle.std.proofs.Math.Seq.{get_or-append_seam, drop-append_seam}
use Rattle.std.specs.List.{zip, slice_range}
use Rattle.std.proofs.lemmas.List.{take-append-le, drop-append-le, get_or_append_left, take_all, length-append, length-drop, length_push}
use Rattle.std.proofs.lemmas.List.FromFn.{map-range_with_len_more}
use Rattle.std.proofs.lemmas.Grind.{get_or_default_zero}
use Rattle.std.proofs.lemmas.List.Sorted.{IsNonDecreasingBy-push, IsNonDecreasingBy-short}
use Rattle.link_net.specs.Neighbours.{numbers_below, row}
use Rattle.link_net.specs.Layout.{part, rows_of, AreOffsets}
use Rattle.large_net.proofs.Parts.{offset_within, paired_length}

-- functions that agree below n
pub map_same_below : {X : Type 0} (f h : ℕ → X) (n : ℕ) → ((u : ℕ) → u < n → f u ≡ h u) → map f (numbers_below n) ≡ map h (numbers_below n)
map_same_below f h zero same = refl
map_same_below f h (suc n) same =
    next n (suc n) (omega arith) (map_same_below f h n (λ u low. same u (omega arith))) (same n (omega arith)) where
      next : (n m : ℕ) → m ≡ n + 1 → map f (numbers_below n) ≡ map h (numbers_below n) → f n ≡ h n → map f (numbers_below m) ≡ map h (numbers_below m)
      next n m is before here =
          rw is (map-range_with_len_more f 0 n n (omega arith) ∙ ap (λ xs. xs ++ f n ∷ []) before ∙ ap (λ x. map h (numbers_below n) ++ x ∷ []) here ∙ sym (map-range_with_len_more h 0 n n (omega arith)))

-- two lists side by side, each with a column after it
zip_more : (xs ys : List ℕ) (row : List (ℕ × ℕ)) → length ys ≡ length xs → zip (xs ++ map (λ a. a.0) row) (ys ++ map (λ a. a.1) row) ≡ zip xs ys ++ row
zip_more [] [] [] same = refl
zip_more [] [] (a ∷ row) same = ap (λ r. a ∷ r) (zip_more [] [] row refl)
zip_more [] (y ∷ ys) row same = absurd (omega (arith, same))
zip_more (x ∷ xs) [] row same = absurd (omega (arith, same))
zip_more (x ∷ xs) (y ∷ ys) row same = ap (λ r. (x, y) ∷ r) (zip_more xs ys row (omega (arith, same)))

-- a range of the items before others
range_before : {X : Type 0} (xs ys : List X) (i j : ℕ) → i ≤ j → j ≤ length xs → slice_range (xs ++ ys) i j ≡ slice_range xs i j
range_before xs ys i j up low =
    ap (take (j - i)) (drop-append-le i xs ys (omega arith)) ∙ take-append-le (j - i) (drop i xs) ys (omega (arith, length-drop i xs))

-- the items after others
range_behind : {X : Type 0} (xs ys : List X) (i j : ℕ) → i ≡ length xs → j ≡ length xs + length ys → slice_range (xs ++ ys) i j ≡ ys
range_behind xs ys i j from to =
    rw from (ap (take (j - length xs)) (drop-append_seam xs ys) ∙ take_all (j - length xs) ys (omega (arith, from, to)))

module _ (offsets : List ℕ) (items row : List (ℕ × ℕ)) (good : AreOffsets offsets (length items)) where
  more : List ℕ
  more = offsets ++ (length items + length row) ∷ []

  earlier : (u : ℕ) → u < length offsets - 1 → part (offsets ++ (length items + length row) ∷ []) (items ++ row) u ≡ part offsets items u
  earlier u low =
      let here = get_or_append_left offsets ((length items + length row) ∷ []) 0 u (omega arith) in
      let there = get_or_append_left offsets ((length items + length row) ∷ []) 0 (u + 1) (omega arith) in
      let up : get_or offsets u 0 ≤ get_or offsets (u + 1) 0 = good.rising u (u + 1) 0 (omega arith) (omega arith) in
      let within : get_or offsets (u + 1) 0 ≤ length items = offset_within offsets items good (u + 1) (omega arith) in
      ap (λ i. slice_range (items ++ row) i (get_or (offsets ++ (length items + length row) ∷ []) (u + 1) 0)) here
      ∙ ap (λ j. slice_range (items ++ row) (get_or offsets u 0) j) there
      ∙ range_before items row _ _ up within

  latest : (u : ℕ) → u ≡ length offsets - 1 → part (offsets ++ (length items + length row) ∷ []) (items ++ row) u ≡ row
  latest u is =
      let low : u < length offsets = omega (arith, good.some, is) in
      let here = get_or_append_left offsets ((length items + length row) ∷ []) 0 u low in
      let at : u + 1 ≡ length offsets = omega (arith, good.some, is) in
      let there = ap (λ k. get_or (offsets ++ (length items + length row) ∷ []) k 0) at ∙ get_or-append_seam offsets (length items + length row) [] 0 in
      range_behind items row _ _ (here ∙ ap (λ k. get_or offsets k 0) is ∙ good.last) there

  parts_more : (n : ℕ) → n ≡ length offsets - 1 → (m : ℕ) → m ≡ n + 1
      → map (part (offsets ++ (length items + length row) ∷ []) (items ++ row)) (numbers_below m) ≡ map (part offsets items) (numbers_below n) ++ row ∷ []
  parts_more n is m next =
      let f = part (offsets ++ (length items + length row) ∷ []) (items ++ row) in
      rw next (map-range_with_len_more f 0 n n (omega arith)
      ∙ ap (λ xs. xs ++ f n ∷ []) (map_same_below f (part offsets items) n (λ u low. earlier u (omega (arith, low, is))))
      ∙ ap (λ x. map (part offsets items) (numbers_below n) ++ x ∷ []) (latest n is))

  -- one more offset
  pub offsets_more : AreOffsets (offsets ++ (length items + length row) ∷ []) (length items + length row)
  offsets_more = record {
    some = omega (arith, length_push offsets (length items + length row));
    first = get_or_append_left offsets ((length items + length row) ∷ []) 0 0 (omega (arith, good.some)) ∙ good.first;
    last = ap (λ k. get_or (offsets ++ (length items + length row) ∷ []) k 0) (omega (arith, length_push offsets (length items + length row))) ∙ get_or-append_seam offsets (length items + length row) [] 0;
    rising = IsNonDecreasingBy-push (λ x. x) offsets (length items + length row) good.rising (λ d some. omega (arith, good.last, get_or_default_zero offsets (length offsets - 1) d (omega (arith, some))));
  }

module _ (offsets ns ws xs ys : List ℕ) (placed : AreOffsets offsets (length ns)) (paired : length ws ≡ length ns) (same : length ys ≡ length xs) where
  both_behind : zip (ns ++ xs) (ws ++ ys) ≡ zip ns ws ++ zip xs ys
  both_behind = append_zip ns ws paired where
    append_zip : (ns ws : List ℕ) → length ws ≡ length ns → zip (ns ++ xs) (ws ++ ys) ≡ zip ns ws ++ zip xs ys
    append_zip [] [] alike = refl
    append_zip [] (w ∷ ws) alike = absurd (omega (arith, alike))
    append_zip (n ∷ ns) [] alike = absurd (omega (arith, alike))
    append_zip (n ∷ ns) (w ∷ ws) alike = ap (λ r. (n, w) ∷ r) (append_zip ns ws (omega (arith, alike)))

  total : length (zip ns ws) + length (zip xs ys) ≡ length (ns ++ xs)
  total = omega (arith, paired_length ns ws paired, paired_length xs ys same, length-append ns xs)

  items_placed : AreOffsets offsets (length (zip ns ws))
  items_placed = rw (paired_length ns ws paired) placed

  -- one row more stands after the others
  pub rows_more : rows_of (offsets ++ length (ns ++ xs) ∷ []) (ns ++ xs) (ws ++ ys) ≡ rows_of offsets ns ws ++ zip xs ys ∷ []
  rows_more =
      rw (both_behind, ← total)
      (parts_more offsets (zip ns ws) (zip xs ys) items_placed (length offsets - 1) refl (length (offsets ++ (length (zip ns ws) + length (zip xs ys)) ∷ []) - 1)
      (omega (arith, placed.some, length_push offsets (length (zip ns ws) + length (zip xs ys)))))

  pub placed_more : AreOffsets (offsets ++ length (ns ++ xs) ∷ []) (length (ns ++ xs))
  placed_more = rw (← total) (offsets_more offsets (zip ns ws) (zip xs ys) items_placed)

-- no rows
pub no_rows : AreOffsets (0 ∷ []) 0
no_rows = record { some = omega arith; first = refl; last = refl; rising = IsNonDecreasingBy-short (λ x. x) (0 ∷ []) (omega arith) }

-- Whether some weight of a network is not 1.
use Rattle.std.proofs.Common.{◌≡◌, ◌∙◌, ℕ, ◌+◌, ◌-◌, ◌<◌, ◌≤◌, Bool, true, false, not, ◌||◌, eqb, List, [], ◌∷◌, ◌++◌, length, get_or, zero, suc, map, refl, sym, ap, take, arith}
use Rattle.std.specs.List.{list_any, zip}
use Rattle.std.proofs.Math.Seq.{take-add}
use Rattle.std.proofs.lemmas.List.{take_all}
use Rattle.std.proofs.lemmas.List.Folds.{list_any-append}
use Rattle.std.proofs.lemmas.List.FromFn.{map-range_with_len_more}
use Rattle.link_net.specs.Neighbours.{numbers_below}
use Rattle.link_net.specs.Layout.{part, rows_of, AreOffsets}
use Rattle.large_net.specs.File.{is_weighted}
use Rattle.large_net.proofs.Parts.{paired_length}

or_false : (b : Bool) → (b || false) ≡ b
or_false true = refl
or_false false = refl

module _ (p : ℕ × ℕ → Bool) (offsets : List ℕ) (items : List (ℕ × ℕ)) (good : AreOffsets offsets (length items)) where
  front_more : (u m : ℕ) → m ≡ u + 1 → m < length offsets → take (get_or offsets m 0) items ≡ take (get_or offsets u 0) items ++ part offsets items u
  front_more u m is low =
      let i = get_or offsets u 0 in
      let j = get_or offsets (u + 1) 0 in
      let up : i ≤ j = good.rising u (u + 1) 0 (omega arith) (omega (arith, is, low)) in
      let next : get_or offsets m 0 ≡ i + (j - i) = omega (arith, up, ap (λ k. get_or offsets k 0) is) in
      ap (λ k. take k items) next ∙ take-add i (j - i) items

  any_more : (u m : ℕ) → m ≡ u + 1 → m < length offsets
      → list_any (λ row. list_any p row) (map (part offsets items) (numbers_below u)) ≡ list_any p (take (get_or offsets u 0) items)
      → list_any (λ row. list_any p row) (map (part offsets items) (numbers_below m)) ≡ list_any p (take (get_or offsets m 0) items)
  any_more u m is low before =
      let rows = map (part offsets items) (numbers_below u) in
      let here = part offsets items u in
      let front = take (get_or offsets u 0) items in
      ap (λ k. list_any (λ (row : List (ℕ × ℕ)). list_any p row) (map (part offsets items) (numbers_below k))) is
      ∙ ap (list_any (λ (row : List (ℕ × ℕ)). list_any p row)) (map-range_with_len_more (part offsets items) 0 u u (omega arith))
      ∙ list_any-append (λ (row : List (ℕ × ℕ)). list_any p row) rows (here ∷ [])
      ∙ ap (λ b. b || (list_any p here || false)) before
      ∙ ap (λ b. list_any p front || b) (or_false (list_any p here))
      ∙ sym (ap (list_any p) (front_more u m is low) ∙ list_any-append p front here)

  any_below : (u : ℕ) → u < length offsets → list_any (λ row. list_any p row) (map (part offsets items) (numbers_below u)) ≡ list_any p (take (get_or offsets u 0) items)
  any_below zero low = sym (ap (λ k. list_any p (take k items)) good.first)
  any_below (suc u) low = any_more u (suc u) (omega arith) low (any_below u (omega arith))

  any_of_rows : list_any (λ row. list_any p row) (map (part offsets items) (numbers_below (length offsets - 1))) ≡ list_any p items
  any_of_rows =
      any_below (length offsets - 1) (omega (arith, good.some))
      ∙ ap (list_any p) (ap (λ k. take k items) good.last ∙ take_all (length items) items (omega arith))

any_second : (ns ws : List ℕ) → length ws ≡ length ns → list_any (λ (a : ℕ × ℕ). not (eqb a.1 1)) (zip ns ws) ≡ list_any (λ w. not (eqb w 1)) ws
any_second [] [] same = refl
any_second [] (w ∷ ws) same = absurd (omega (arith, same))
any_second (n ∷ ns) [] same = absurd (omega (arith, same))
any_second (n ∷ ns) (w ∷ ws) same = ap (λ b. not (eqb w 1) || b) (any_second ns ws (omega (arith, same)))

-- a network has weights where the list of its weights has
pub weighted_rows : (offsets ns ws : List ℕ) → AreOffsets offsets (length ns) → length ws ≡ length ns → is_weighted (rows_of offsets ns ws) ≡ list_any (λ w. not (eqb w 1)) ws
weighted_rows offsets ns ws good paired =
    let placed : AreOffsets offsets (length (zip ns ws)) = rw (paired_length ns ws paired) good in
    any_of_rows (λ a. not (eqb a.1 1)) offsets (zip ns ws) placed ∙ any_second ns ws paired

-- Each cell of a picture has its place.
use Rattle.std.proofs.Common.{◌≡◌, ◌∙◌, ◌<◌, ◌≤◌, ◌+◌, ◌-◌, ◌*◌, ◌/◌, ◌%◌, ℕ, zero, suc, List, [], ◌∷◌, ◌++◌, All, ap, arith, length, map, refl, slice_index_or, subst, sym}
use Rattle.std.proofs.Math.Nat.{div-mul-le_self, mod-le}
use Rattle.std.proofs.lemmas.Grind.{common_steps}
use Rattle.std.proofs.lemmas.Nat.{div-add-mod', le-div, mod_below}
use Rattle.std.specs.List.{AllPairs}
use Rattle.run_picture.specs.Placed.{EachCellHasItsPlace, drawn}
use Rattle.run_picture.specs.Shades.{KeyView, class_of}
use Rattle.run_picture.specs.Sheets.{cell_text, columns_of, rows_of, rows_text}

-- a place before the end is in one of the rows
row_below : (k width count : ℕ) → 1 ≤ width → k < count → k / width < rows_of width count
row_below k width count wide inside =
    let whole = div-mul-le_self k width in
    let next : (k / width + 1) * width ≡ k / width * width + width = grind (arith, common_steps) in
    let room : (k / width + 1) * width ≤ count + width - 1 = omega (arith, next, whole, inside) in
    let row = le-div (k / width + 1) (count + width - 1) width wide room in
    omega (arith, row)

column_below : (k width count : ℕ) → 1 ≤ width → k < count → k % width < columns_of width count
column_below k width count wide inside =
    let narrow = mod_below k width wide in
    let less = mod-le k width in
    omega (arith, narrow, less, inside)

-- the cells from place i on
abbrev cells_from : KeyView → ℕ → ℕ → List ℕ → List (ℕ × ℕ × ℕ)
cells_from key width i [] = []
cells_from key width i (v ∷ values) = (class_of key v, i % width, i / width) ∷ cells_from key width (i + 1) values

text_is : (key : KeyView) (width i : ℕ) (values : List ℕ) → rows_text key width i values ≡ drawn key.styles.shape (cells_from key width i values)
text_is key width i [] = refl
text_is key width i (v ∷ values) = ap (λ (text : List ℕ). cell_text key.styles.shape (class_of key v) (i % width) (i / width) ++ text) (text_is key width (i + 1) values)

count_is : (key : KeyView) (width i : ℕ) (values : List ℕ) → length (cells_from key width i values) ≡ length values
count_is key width i [] = refl
count_is key width i (v ∷ values) = ap (λ (n : ℕ). suc n) (count_is key width (i + 1) values)

colours_are : (key : KeyView) (width i : ℕ) (values : List ℕ) → map (λ (c : ℕ × ℕ × ℕ). c.0) (cells_from key width i values) ≡ map (class_of key) values
colours_are key width i [] = refl
colours_are key width i (v ∷ values) = ap (λ (classes : List ℕ). class_of key v ∷ classes) (colours_are key width (i + 1) values)

-- the cell that comes k after the first stands at place i + k
pub record StandsAt (width place : ℕ) (c : ℕ × ℕ × ℕ) : Type 0 where
  pub column : c.1 ≡ place % width
  pub row : c.2 ≡ place / width

stands : (key : KeyView) (width i : ℕ) (values : List ℕ) (k : ℕ) (d : ℕ × ℕ × ℕ) → k < length values → StandsAt width (i + k) (slice_index_or (cells_from key width i values) k d)
stands key width i [] k d inside = absurd (omega (arith, inside))
stands key width i (v ∷ values) zero d inside =
    let e : i ≡ i + zero = omega arith in
    record { column = ap (λ (place : ℕ). place % width) e; row = ap (λ (place : ℕ). place / width) e }
stands key width i (v ∷ values) (suc k) d inside =
    let e : i + 1 + k ≡ i + suc k = omega arith in
    subst (λ (place : ℕ). StandsAt width place (slice_index_or (cells_from key width (i + 1) values) k d)) e (stands key width (i + 1) values k d (omega (arith, inside)))

module _ (key : KeyView) (width : ℕ) (values : List ℕ) (wide : 1 ≤ width) where
  abbrev cells : List (ℕ × ℕ × ℕ)
  cells = cells_from key width 0 values

  at_place : (k : ℕ) (d : ℕ × ℕ × ℕ) → k < length cells → StandsAt width k (slice_index_or cells k d)
  at_place k d inside =
      let count = count_is key width 0 values in
      let e : 0 + k ≡ k = omega arith in
      subst (λ (place : ℕ). StandsAt width place (slice_index_or cells k d)) e (stands key width 0 values k d (omega (arith, inside, count)))

  in_order : (k : ℕ) (d : ℕ × ℕ × ℕ) → k < length cells → (slice_index_or cells k d).2 * width + (slice_index_or cells k d).1 ≡ k
  in_order k d inside =
      let at = at_place k d inside in
      ap (λ (row : ℕ). row * width + (slice_index_or cells k d).1) at.row ∙ ap (λ (column : ℕ). k / width * width + column) at.column ∙ div-add-mod' k width

  within : All (λ c. (c.1 < columns_of width (length values)) × (c.2 < rows_of width (length values))) cells
  within k d inside =
      let count = count_is key width 0 values in
      let low : k < length values = omega (arith, inside, count) in
      let at = at_place k d inside in (
        subst (λ (x : ℕ). x < columns_of width (length values)) (sym at.column) (column_below k width (length values) wide low),
        subst (λ (y : ℕ). y < rows_of width (length values)) (sym at.row) (row_below k width (length values) wide low),
      )

  none_over : AllPairs (λ c d. c.1 ≡ d.1 → c.2 ≡ d.2 → ⊥) cells
  none_over i j d less inside column row =
      let one = in_order i d (omega (arith, less, inside)) in
      let other = in_order j d inside in
      let same : (slice_index_or cells i d).2 * width + (slice_index_or cells i d).1 ≡ (slice_index_or cells j d).2 * width + (slice_index_or cells j d).1 =
      ap (λ (y : ℕ). y * width + (slice_index_or cells i d).1) row ∙ ap (λ (x : ℕ). (slice_index_or cells j d).2 * width + x) column in
      let both : i ≡ j = sym one ∙ same ∙ other in
      absurd (omega (arith, both, less))

pub each_cell_has_its_place : EachCellHasItsPlace
each_cell_has_its_place key width values wide = (
  cells_from key width 0 values,
  text_is key width 0 values,
  record { colours = colours_are key width 0 values; order = in_order key width values wide; inside = within key width values wide; apart = none_over key width values wide },
)

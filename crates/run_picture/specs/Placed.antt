-- Where the cells of a picture stand. A cell is the number of its colour, its column and its row.
use Rattle.std.specs.Prelude.{◌≡◌, ℕ, ◌+◌, ◌*◌, ◌<◌, ◌≤◌, List, All, AllPairs, length, map, slice_index_or}
use Rattle.std.specs.List.{flat_map}
use Rattle.run_picture.specs.declared.chosen.CellShape.{CellShape}
use Rattle.run_picture.specs.DrawnLinks.{FitsWords}
use Rattle.run_picture.specs.Shades.{KeyView, class_of}
use Rattle.run_picture.specs.Sheets.{cell_text, columns_of, rows_of, rows_text}

-- the text of cells of a shape, one after the other
abbrev pub drawn : CellShape → List (ℕ × ℕ × ℕ) → List ℕ
drawn shape cells = flat_map (λ c. cell_text shape c.0 c.1 c.2) cells

-- these are the cells of a picture of values in rows of a width
pub record AreCells (key : KeyView) (width : ℕ) (values : List ℕ) (cells : List (ℕ × ℕ × ℕ)) : Type 0 where
  -- one for each value in order, with the colour of the value
  pub colours : map (λ c. c.0) cells ≡ map (class_of key) values
  -- row by row: as many cells stand above a cell and to the left of it as values come before its own
  pub order : (i : ℕ) (c : ℕ × ℕ × ℕ) → i < length cells → (slice_index_or cells i c).2 * width + (slice_index_or cells i c).1 ≡ i
  -- each within the columns and the rows of the picture
  pub inside : All (λ c. (c.1 < columns_of width (length values)) × (c.2 < rows_of width (length values))) cells
  -- no two at the same place
  pub apart : AllPairs (λ c d. c.1 ≡ d.1 → c.2 ≡ d.2 → ⊥) cells

-- the cells of a picture stand in rows of the width, one for each value
abbrev pub EachCellHasItsPlace : Type 0
EachCellHasItsPlace = (key : KeyView) (width : ℕ) (values : List ℕ) → 1 ≤ width → (cells : List (ℕ × ℕ × ℕ)) × (rows_text key width 0 values ≡ drawn key.styles.shape cells) × AreCells key width values cells

-- two lists of cells, their numbers of 32 bits, that have the same text are the same
abbrev pub TextTellsCells : Type 0
TextTellsCells = (shape : CellShape) (cells others : List (ℕ × ℕ × ℕ)) → All FitsWords cells → All FitsWords others → drawn shape cells ≡ drawn shape others → cells ≡ others

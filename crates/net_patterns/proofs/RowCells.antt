-- The cells of rows, found sign by sign.
use Rattle.std.proofs.Common.{◌≡◌, ℕ, ◌+◌, List, [], ◌∷◌, ◌++◌, refl, sym, ap, ◌∙◌, Result, Ok, Err}
use Rattle.std.specs.List.{slice_split, onto_first, enumerate_from}
use Rattle.net_patterns.specs.declared.board.Cell.{Cell}
use Rattle.net_patterns.specs.declared.board.Mark.TheVariants.{Dead, Alive, RowEnd}
use Rattle.net_patterns.specs.declared.fault.PatternFault.{PatternFault}
use Rattle.net_patterns.specs.Cells.{Run, Sign, ends_row, rows_of, cells_in_row, cells_in_rows, cells_of, with_front, judged, written_out, runs_in, fault_in, pattern_of}
use Rattle.net_patterns.specs.Steps.{cells_at, comes}

-- the cells of rows, the first of which has this number and begins in this column
abbrev cells_behind : ℕ → ℕ → List (List Sign) → List (ℕ × Cell)
cells_behind column row [] = []
cells_behind column row (r ∷ rows) = cells_in_row row column r ++ cells_in_rows (enumerate_from (row + 1) rows)

-- a sign that ends no row, put before rows
dead_before : (column row line : ℕ) (rows : List (List Sign)) → cells_behind column row (onto_first (line, Dead) rows) ≡ cells_behind (column + 1) row rows
dead_before column row line [] = refl
dead_before column row line (r ∷ rows) = refl

alive_before : (column row line state : ℕ) (rows : List (List Sign)) → cells_behind column row (onto_first (line, Alive state) rows) ≡ (line, record { column = column; row = row; state = state }) ∷ cells_behind (column + 1) row rows
alive_before column row line state [] = refl
alive_before column row line state (r ∷ rows) = refl

from_rows : (row : ℕ) (rows : List (List Sign)) → cells_behind 0 row rows ≡ cells_in_rows (enumerate_from row rows)
from_rows row [] = refl
from_rows row (r ∷ rows) = refl

cells_split : (signs : List Sign) (column row : ℕ) → cells_at column row signs ≡ cells_behind column row (slice_split ends_row signs)
cells_split [] column row = refl
cells_split ((line, Dead) ∷ signs) column row = cells_split signs (column + 1) row ∙ sym (dead_before column row line (slice_split ends_row signs))
cells_split ((line, Alive state) ∷ signs) column row =
    ap (λ cs. (line, record { column = column; row = row; state = state }) ∷ cs) (cells_split signs (column + 1) row) ∙ sym (alive_before column row line state (slice_split ends_row signs))
cells_split ((line, RowEnd) ∷ signs) column row = cells_split signs 0 (row + 1) ∙ from_rows (row + 1) (slice_split ends_row signs)

pub cells_all : (signs : List Sign) → cells_at 0 0 signs ≡ cells_of (rows_of signs)
cells_all signs = cells_split signs 0 0 ∙ from_rows 0 (slice_split ends_row signs)

no_front : (r : Result (List Cell) PatternFault) → with_front [] r ≡ r
no_front (Ok cs) = refl
no_front (Err fault) = refl

-- at the beginning the pattern comes out
pub comes-begin : (pieces : List (Result Run PatternFault)) → comes [] 0 0 pieces ≡ pattern_of pieces
comes-begin pieces = no_front (judged 0 (cells_at 0 0 (written_out (runs_in pieces))) (fault_in pieces)) ∙ ap (λ cs. judged 0 cs (fault_in pieces)) (cells_all (written_out (runs_in pieces)))

pub begins : (front : List Cell) (column row : ℕ) (pieces : List (Result Run PatternFault)) → front ≡ [] → column ≡ 0 → row ≡ 0 → comes front column row pieces ≡ pattern_of pieces
begins front column row pieces e d f = rw (e, d, f) (comes-begin pieces)

-- A pattern that is read in part.
use Rattle.std.specs.Prelude.{ℕ, ◌+◌, List, [], ◌∷◌, length, Option, Result}
use Rattle.net_patterns.specs.declared.board.Cell.{Cell}
use Rattle.net_patterns.specs.declared.board.Mark.TheVariants.{Dead, Alive, RowEnd}
use Rattle.net_patterns.specs.declared.fault.PatternFault.{PatternFault}
use Rattle.net_patterns.specs.RunSteps.{pieces_from}
use Rattle.net_patterns.specs.Cells.{Run, Sign, written_out, judged, runs_in, fault_in, with_front}

-- the live cells of signs that begin in this column and row
abbrev pub cells_at : ℕ → ℕ → List Sign → List (ℕ × Cell)
cells_at column row [] = []
cells_at column row ((line, Dead) ∷ signs) = cells_at (column + 1) row signs
cells_at column row ((line, Alive state) ∷ signs) = (line, record { column = column; row = row; state = state }) ∷ cells_at (column + 1) row signs
cells_at column row ((line, RowEnd) ∷ signs) = cells_at 0 (row + 1) signs

-- the pattern that comes out, where these cells were found, the next sign stands in this column and row, and these pieces are left
abbrev pub comes : List Cell → ℕ → ℕ → List (Result Run PatternFault) → Result (List Cell) PatternFault
comes front column row pieces = with_front front (judged (length front) (cells_at column row (written_out (runs_in pieces))) (fault_in pieces))

-- the same where these bytes are left, after this number and a letter that adds so many states
abbrev pub reads : List Cell → ℕ → ℕ → ℕ → Option ℕ → ℕ → List ℕ → Result (List Cell) PatternFault
reads front column row line number higher bytes = comes front column row (pieces_from line number higher bytes)

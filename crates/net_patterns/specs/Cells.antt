-- The live cells that runs of marks say.
use Rattle.std.specs.Prelude.{◌≡◌, ◌≢◌, ℕ, ◌+◌, Bool, true, false, ◌&&◌, List, [], ◌∷◌, ◌++◌, nat_lt, map, replicate, MatchResult, Option, Some, None, Result, Ok, Err, if◌then◌else◌}
use Rattle.std.specs.List.{filter, slice_split, enumerate_from}
use Rattle.net_patterns.specs.declared.board.Cell.{Cell}
use Rattle.net_patterns.specs.declared.board.Mark.{Mark}
use Rattle.net_patterns.specs.declared.board.Mark.TheVariants.{Dead, Alive, RowEnd}
use Rattle.net_patterns.specs.declared.fault.PatternFault.{PatternFault}
use Rattle.net_patterns.specs.declared.fault.PatternFault.TheVariants.{TooLarge, Memory}

-- a run: so many copies of a mark, in this line of the text
pub record Run : Type 0 where
  pub line : ℕ
  pub count : ℕ
  pub mark : Mark

-- one mark that is written out, and its line
abbrev pub Sign : Type 0
Sign = ℕ × Mark

-- the signs that runs stand for: each run written out
abbrev pub written_out : List Run → List Sign
written_out [] = []
written_out (r ∷ rs) = replicate r.count (r.line, r.mark) ++ written_out rs

-- a sign ends a row
abbrev pub ends_row : Sign → Bool
ends_row (line, Dead) = false
ends_row (line, Alive state) = false
ends_row (line, RowEnd) = true

-- a sign is a live cell
abbrev pub lives : Sign → Bool
lives (line, Dead) = false
lives (line, Alive state) = true
lives (line, RowEnd) = false

-- the state of a sign, 0 where it is no live cell
abbrev pub state_of : Sign → ℕ
state_of (line, Dead) = 0
state_of (line, Alive state) = state
state_of (line, RowEnd) = 0

-- the rows: the signs, split at the ends of rows
abbrev pub rows_of : List Sign → List (List Sign)
rows_of signs = slice_split ends_row signs

-- the live cells of a row, whose first sign stands in this column, each with its line of the text
abbrev pub cells_in_row : ℕ → ℕ → List Sign → List (ℕ × Cell)
cells_in_row row column signs =
    map (λ s. (s.1.0, record { column = s.0; row = row; state = state_of s.1 })) (filter (λ s. lives s.1) (enumerate_from column signs))

-- the live cells of rows that are numbered
abbrev pub cells_in_rows : List (ℕ × List Sign) → List (ℕ × Cell)
cells_in_rows [] = []
cells_in_rows (r ∷ rs) = cells_in_row r.0 0 r.1 ++ cells_in_rows rs

-- the live cells of all rows, row by row; rows and columns are counted from 0
abbrev pub cells_of : List (List Sign) → List (ℕ × Cell)
cells_of rows = cells_in_rows (enumerate_from 0 rows)

-- columns, rows and live cells are fewer than this, or as many
abbrev pub limit : ℕ
limit = 65536

-- a cell has room, where so many cells stand before it
abbrev pub has_room : ℕ → Cell → Bool
has_room before c = nat_lt before limit && nat_lt c.column limit && nat_lt c.row limit

-- cells before those of a result
abbrev pub with_front : List Cell → Result (List Cell) PatternFault → Result (List Cell) PatternFault
with_front front (Ok cs) = Ok (front ++ cs)
with_front front (Err fault) = Err fault

-- the cells, or the fault of the first that has no room, or the fault that stands after them all
abbrev pub judged : ℕ → List (ℕ × Cell) → Option PatternFault → Result (List Cell) PatternFault
judged before [] None = Ok []
judged before [] (Some fault) = Err fault
judged before (c ∷ cs) fault =
    if has_room before c.1 then with_front (c.1 ∷ []) (judged (before + 1) cs fault) else Err (TooLarge c.0)

-- a text is read into pieces, each a run; where it is at fault, the last piece is the fault. These are its runs
abbrev pub runs_in : List (Result Run PatternFault) → List Run
runs_in [] = []
runs_in (Ok r ∷ pieces) = r ∷ runs_in pieces
runs_in (Err fault ∷ pieces) = []

-- and this is its fault
abbrev pub fault_in : List (Result Run PatternFault) → Option PatternFault
fault_in [] = None
fault_in (Ok r ∷ pieces) = fault_in pieces
fault_in (Err fault ∷ pieces) = Some fault

-- the pattern that pieces say, or the first fault
abbrev pub pattern_of : List (Result Run PatternFault) → Result (List Cell) PatternFault
pattern_of pieces = judged 0 (cells_of (rows_of (written_out (runs_in pieces)))) (fault_in pieces)

-- what was returned, seen by view, is the defined result, or stands for running out of memory
abbrev pub IsAnswer : {A B : Type 0} → (B → A) → Result A PatternFault → Result B PatternFault → Type 0
IsAnswer view defined r = MatchResult r (λ x. defined ≡ Ok (view x)) (λ fault. fault ≢ Memory → defined ≡ Err fault)

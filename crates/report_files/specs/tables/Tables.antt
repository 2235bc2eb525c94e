-- Reports and replay reports as tables, without the program and the network that they were made from.
use Rattle.std.specs.Prelude.{◌≡◌, ◌≤◌, ◌<◌, ◌^◌, ℕ, ◌+◌, Bool, true, false, List, [], ◌∷◌, ◌++◌, length, codes, All, Option, Some, None}
use Rattle.std.specs.Fmt.{decimal}
use Rattle.rule_check.specs.WellFormed.{IsFieldName}
use Rattle.report_text.specs.Report.{fields_text, round_line}
use Rattle.report_text.specs.ReadReport.{IsStateOf}
use Rattle.link_net.specs.Limits.{most_rows}
use Rattle.report_files.specs.declared.tables.row.Row.{Row}

-- the round of a report (a replay report has none), the names of the fields, and the rows of the nodes by rising number from 0
pub record TableView : Type 0 where
  pub round : Option ℕ
  pub fields : List (List ℕ)
  pub rows : List Row

-- what a node's line says of its moves: nothing in a report, ` moves ` and their count in a replay report
abbrev pub moves_text : Option ℕ → List ℕ
moves_text None = []
moves_text (Some count) = codes " moves " ++ decimal count

-- what stands after the number of a node's line: its moves, its fields, and LF
abbrev pub row_text : List (List ℕ) → Row → List ℕ
row_text names row = moves_text row.moves ++ (fields_text names row.state.words ++ 10 ∷ [])

-- the line of a node
abbrev pub row_line : List (List ℕ) → ℕ → Row → List ℕ
row_line names u row = decimal u ++ row_text names row

-- the lines of nodes from number u on
abbrev pub row_lines : List (List ℕ) → ℕ → List Row → List ℕ
row_lines names u [] = []
row_lines names u (row ∷ rows) = row_line names u row ++ row_lines names (u + 1) rows

-- the line of the round, which a replay report has not
abbrev pub round_text : Option ℕ → List ℕ
round_text None = []
round_text (Some round) = round_line round

-- the text of a table
abbrev pub table_text : TableView → List ℕ
table_text t = round_text t.round ++ row_lines t.fields 0 t.rows

-- a number that fits 32 bits, in a replay report alone (counted)
abbrev pub FitMoves : Bool → Option ℕ → Type 0
FitMoves true (Some count) = count < 2 ^ 32
FitMoves true None = ⊥
FitMoves false (Some count) = ⊥
FitMoves false None = Unit {0}

-- a row of a table with so many fields: its moves are there as they should, each value fits 32 bits
pub record IsRow (fields : ℕ) (counted : Bool) (row : Row) : Type 0 where
  pub moves : FitMoves counted row.moves
  pub state : IsStateOf fields row.state

-- names of fields that a program may have, as many as a program may have
pub record AreFields (fields : List (List ℕ)) : Type 0 where
  pub few : length fields ≤ 8
  pub names : All IsFieldName fields

-- the moves are counted where there is no round
abbrev pub is_counted : Option ℕ → Bool
is_counted None = true
is_counted (Some round) = false

-- the round fits 32 bits
abbrev pub FitRound : Option ℕ → Type 0
FitRound None = Unit {0}
FitRound (Some round) = round < 2 ^ 32

-- a table that some report has: one node or more, no more than a network of any size has
pub record IsTable (t : TableView) : Type 0 where
  pub round : FitRound t.round
  pub fields : AreFields t.fields
  pub some : 1 ≤ length t.rows
  pub few : length t.rows ≤ most_rows
  pub rows : All (IsRow (length t.fields) (is_counted t.round)) t.rows

-- the bytes are the text of this table
pub record HasTable (bytes : List ℕ) (t : TableView) : Type 0 where
  pub is_table : IsTable t
  pub text : bytes ≡ table_text t

-- How far the lines of nodes in a text go, with some names of fields.
use Rattle.std.specs.Prelude.{◌≡◌, ◌≢◌, ◌<◌, ℕ, ◌+◌, Bool, List, [], ◌++◌, length, All, ◌⊎◌, Option, Some, None}
use Rattle.link_net.specs.Limits.{most_rows}
use Rattle.report_files.specs.declared.tables.row.Row.{Row}
use Rattle.report_files.specs.declared.tables.fault.TableFault.{TableFault}
use Rattle.report_files.specs.declared.tables.fault.TableFault.TheVariants.{BadLine, TooManyNodes, Memory}
use Rattle.report_files.specs.tables.Tables.{AreFields, IsRow, is_counted, row_line, row_lines}

-- the text has the lines of some nodes from node 0 on, fewer than there may be, and what stands after them does not begin with a line of the next node; it is not empty, but where there is no line at all
pub record StopsAt (names : List (List ℕ)) (counted : Bool) (text : List ℕ) (passed : ℕ) : Type 0 where
  pub good : List Row
  pub rest : List ℕ
  pub cut : text ≡ row_lines names 0 good ++ rest
  pub fit : All (IsRow (length names) counted) good
  pub few : length good < most_rows
  pub place : passed ≡ length good
  pub missing : (row : Row) (behind : List ℕ) → IsRow (length names) counted row → rest ≢ row_line names (length good) row ++ behind
  pub opened : (good ≡ []) ⊎ (rest ≢ [])

-- the text has the lines of as many nodes as there may be, and something after them
pub record GoesOn (names : List (List ℕ)) (counted : Bool) (text : List ℕ) : Type 0 where
  pub good : List Row
  pub rest : List ℕ
  pub cut : text ≡ row_lines names 0 good ++ rest
  pub fit : All (IsRow (length names) counted) good
  pub full : length good ≡ most_rows
  pub opened : rest ≢ []

-- why a text is not the lines of nodes; so many lines stand before it. Lines are counted from 1
abbrev pub IsStopped : List (List ℕ) → Bool → ℕ → List ℕ → TableFault → Type 0
IsStopped names counted before text (BadLine line) = (passed : ℕ) × StopsAt names counted text passed × (line ≡ before + (passed + 1))
IsStopped names counted before text (TooManyNodes line) = GoesOn names counted text × (line ≡ before + (most_rows + 1))
IsStopped names counted before text Memory = Unit {0}

-- how many lines a round has
abbrev pub round_lines : Option ℕ → ℕ
round_lines None = 0
round_lines (Some round) = 1

-- names of fields, and those of any line of node 0 that the lines begin with
pub record AreFirstNames (counted : Bool) (lines : List ℕ) (fields : List (List ℕ)) : Type 0 where
  pub are_fields : AreFields fields
  pub only : (names : List (List ℕ)) (row : Row) (more : List ℕ) → AreFields names → IsRow (length names) counted row → lines ≡ row_line names 0 row ++ more → fields ≡ names

-- why the lines after that of the round are refused: with the names that their first line has
pub record AreRefusedWith (round : Option ℕ) (lines : List ℕ) (fault : TableFault) : Type 0 where
  pub fields : List (List ℕ)
  pub names : AreFirstNames (is_counted round) lines fields
  pub why : IsStopped fields (is_counted round) (round_lines round) lines fault

-- why they are refused, where memory was enough
abbrev pub AreRefused : Option ℕ → List ℕ → TableFault → Type 0
AreRefused round lines (BadLine line) = AreRefusedWith round lines (BadLine line)
AreRefused round lines (TooManyNodes line) = AreRefusedWith round lines (TooManyNodes line)
AreRefused round lines Memory = Unit {0}

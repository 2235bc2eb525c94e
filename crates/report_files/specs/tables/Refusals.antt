-- Why a text has no table.
use Rattle.std.specs.Prelude.{◌≡◌, ◌≢◌, ◌≤◌, ℕ, ◌+◌, ◌-◌, List, [], ◌++◌, length, take}
use Rattle.link_net.specs.Limits.{most_rows}
use Rattle.report_text.specs.Lines.{lines_of}
use Rattle.report_files.specs.declared.tables.fault.TableFault.{TableFault}
use Rattle.report_files.specs.declared.tables.fault.TableFault.TheVariants.{BadLine, TooManyNodes, Memory}
use Rattle.report_files.specs.tables.Tables.{TableView, IsTable, table_text}

-- the first lines of the text, so many, are the first lines of some table's text; where one of the two has fewer lines, so has the other
pub record BeginsLikeTable (text : List ℕ) (count : ℕ) : Type 0 where
  pub table : TableView
  pub is_table : IsTable table
  pub same : take count (lines_of text) ≡ take count (lines_of (table_text table))

-- the text is that of a table with as many nodes as there may be, and something after it, from the line with this number on
pub record HasTooManyNodes (text : List ℕ) (number : ℕ) : Type 0 where
  pub table : TableView
  pub is_table : IsTable table
  pub full : length table.rows ≡ most_rows
  pub rest : List ℕ
  pub whole : text ≡ table_text table ++ rest
  pub more : rest ≢ []
  pub place : number ≡ length (lines_of (table_text table)) + 1

-- the line with this number, counted from 1, is the first that no table has after the lines before it, or the first that is missing; and not for want of a table with more nodes
pub record IsFirstBadLine (text : List ℕ) (number : ℕ) : Type 0 where
  pub counted : 1 ≤ number
  pub before : BeginsLikeTable text (number - 1)
  pub bad : BeginsLikeTable text number → ⊥
  pub few : HasTooManyNodes text number → ⊥

-- why a text is refused
abbrev pub IsRefused : List ℕ → TableFault → Type 0
IsRefused text (BadLine line) = IsFirstBadLine text line
IsRefused text (TooManyNodes line) = HasTooManyNodes text line
IsRefused text Memory = Unit {0}

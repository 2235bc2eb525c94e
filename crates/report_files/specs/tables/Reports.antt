-- What reports are, as tables.
use Rattle.std.specs.Prelude.{◌≡◌, ℕ, List, map, Some, None}
use Rattle.rounds_plan.specs.Configs.{Configuration}
use Rattle.report_text.specs.Report.{report_text}
use Rattle.report_files.specs.tables.Tables.{TableView, table_text}

-- the table of the configuration of a program with these fields: its round, and its states without moves
abbrev pub table_of : List (List ℕ) → Configuration → TableView
table_of names c = record { round = Some c.rounds; fields = names; rows = map (λ s. record { moves = None; state = s }) c.states }

-- the text of this table is the configuration's report
abbrev pub ReportsAreTables : Type 0
ReportsAreTables = (names : List (List ℕ)) (c : Configuration) → table_text (table_of names c) ≡ report_text names c

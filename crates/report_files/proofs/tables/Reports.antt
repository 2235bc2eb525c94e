-- Reports as tables.
use Rattle.std.proofs.Common.{◌≡◌, ℕ, ◌+◌, List, [], ◌∷◌, ◌++◌, map, refl, ap, None}
use Rattle.rule_check.specs.declared.state.State.{State}
use Rattle.report_text.specs.Report.{node_line, node_lines, round_line}
use Rattle.report_files.specs.tables.Tables.{row_lines}
use Rattle.report_files.specs.tables.Reports.{ReportsAreTables}

lines_same : (names : List (List ℕ)) (u : ℕ) (states : List State) → row_lines names u (map (λ s. record { moves = None; state = s }) states) ≡ node_lines names u states
lines_same names u [] = refl
lines_same names u (s ∷ states) = ap (λ t. node_line names u s ++ t) (lines_same names (u + 1) states)

pub reports_are : ReportsAreTables
reports_are names c = ap (λ t. round_line c.rounds ++ t) (lines_same names 0 c.states)

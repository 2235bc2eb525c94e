-- What is shown whole is a report.
use Rattle.std.specs.Prelude.{◌≡◌, ℕ, ◌≤◌, false, List, [], length, All}
use Rattle.std.specs.List.{range_with_len}
use Rattle.rule_check.specs.declared.state.State.{State}
use Rattle.rounds_plan.specs.Configs.{Configuration}
use Rattle.report_text.specs.Report.{report_text}
use Rattle.run_watch.specs.declared.show.Format.TheVariants.{Report}
use Rattle.run_watch.specs.declared.show.Show.{Show}
use Rattle.run_watch.specs.Watching.{part_text}

-- reports of all fields in order, of all nodes, by their numbers
pub record ShowsAll (show : Show) (count : ℕ) : Type 0 where
  pub report : show.format ≡ Report
  pub fields : show.fields.now ≡ range_with_len 0 count
  pub labels : show.labels.now ≡ []
  pub all : show.changes ≡ false

-- shown in this way, a configuration of a program with these fields is its report
abbrev pub WholePartsAreReports : Type 0
WholePartsAreReports = (show : Show) (names : List (List ℕ)) (before : List State) (c : Configuration)
    → ShowsAll show (length names) → All (λ state. length names ≤ length state.words) c.states → part_text show names before c ≡ report_text names c

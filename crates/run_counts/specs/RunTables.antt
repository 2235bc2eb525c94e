-- The text of runs that are counted together.
use Rattle.std.specs.Prelude.{◌≡◌, ℕ, List, [], ◌++◌, String}
use Rattle.std.specs.Global.{Global}
use Rattle.std.specs.List.{AllZip, flat_map}
use Rattle.run_watch.specs.Spans.{SpanView}
use Rattle.run_counts.specs.declared.asked.CountFormat.{CountFormat}
use Rattle.run_counts.specs.declared.asked.CountFormat.TheVariants.{Csv, Json}
use Rattle.run_counts.specs.declared.asked.Counting.{Counting}
use Rattle.run_counts.specs.declared.asked.Figure.{Figure}
use Rattle.run_counts.specs.declared.ensemble.Ensemble.{Ensemble}
use Rattle.run_counts.specs.declared.ensemble.Setting.{Setting}
use Rattle.run_counts.specs.Ensembles.{IsRunOf, RunView, names_in, rows_in}
use Rattle.run_counts.specs.Rows.{AreValues}
use Rattle.run_counts.specs.Settings.{head_text, names_text, settings_in}
use Rattle.run_counts.specs.Tables.{opening_text, row_text}

-- the line of the headings, in CSV alone: what varies comes first
abbrev pub runs_opening : CountFormat → List (String Global) → List Setting → List (List ℕ) → List Figure → List ℕ → List ℕ
runs_opening Csv labels settings names figures values = names_text settings ++ opening_text Csv labels names figures values
runs_opening Json labels settings names figures values = []

-- the lines of a run: those of its rounds, each after what the run has of what varies
abbrev pub run_text : CountFormat → List (String Global) → List (List ℕ) → List ℕ → RunView → List ℕ
run_text format labels names values run = flat_map (row_text format labels (head_text format run.settings) names values) run.rows

-- the lines of all runs after the headings
abbrev pub runs_text : CountFormat → List (String Global) → List Setting → List (List ℕ) → List Figure → List ℕ → List RunView → List ℕ
runs_text format labels settings names figures values runs = runs_opening format labels settings names figures values ++ flat_map (run_text format labels names values) runs

-- the text is that of exactly the rounds that are counted of each run, in the order of the runs, with a column for each state, and for each value that occurs in one of them
pub record AreCounted (e : Ensemble) (span : SpanView) (counting : Counting) (text : List ℕ) : Type 0 where
  pub runs : List RunView
  pub values : List ℕ
  pub runs_are : AllZip (IsRunOf span counting) e.variants.now runs
  pub values_are : AreValues counting.states (rows_in runs) values
  pub spelled : text ≡ runs_text counting.format counting.names.now (settings_in e.variants.now) (names_in e.variants.now) counting.figures.now values runs

-- Runs that are counted together.
use Rattle.std.specs.Prelude.{◌≡◌, ℕ, List, [], ◌∷◌, Option, None}
use Rattle.std.specs.List.{flat_map}
use Rattle.std.specs.Option.{option_or}
use Rattle.rule_check.specs.Value.{names_of}
use Rattle.run_watch.specs.declared.fault.WatchFault.{WatchFault}
use Rattle.run_watch.specs.Spans.{SpanView}
use Rattle.run_counts.specs.declared.asked.Counting.{Counting}
use Rattle.run_counts.specs.declared.ensemble.Setting.{Setting}
use Rattle.run_counts.specs.declared.ensemble.Variant.{Variant}
use Rattle.run_counts.specs.Rows.{AreRows, RowView}
use Rattle.run_counts.specs.Counts.{refusal_of}

-- there is a mean of so many runs at most
abbrev pub most_runs : ℕ
most_runs = 1000

-- a run that is counted: what varies, with its values, and the rounds that are counted
pub record RunView : Type 0 where
  pub settings : List Setting
  pub rows : List RowView

-- the run is that of a variant, counted by itself
pub record IsRunOf (span : SpanView) (counting : Counting) (variant : Variant) (run : RunView) : Type 0 where
  pub settings : run.settings ≡ variant.settings.now
  pub rows : AreRows variant.plan.now span counting run.rows

-- the rounds that are counted, of one run after the other
abbrev pub rows_in : List RunView → List RowView
rows_in runs = flat_map (λ run. run.rows) runs

-- the names of the fields: those of the first run's program
abbrev pub names_in : List Variant → List (List ℕ)
names_in [] = []
names_in (v ∷ variants) = names_of v.plan.now.program

-- why they are not counted, whatever memory there is: the fault of the first run that has one
abbrev pub refusal_in : SpanView → Counting → List Variant → Option WatchFault
refusal_in span counting [] = None
refusal_in span counting (v ∷ variants) = option_or (refusal_of v.plan.now span counting) (refusal_in span counting variants)

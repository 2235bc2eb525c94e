-- The text of the rounds of a plan, as they are counted.
use Rattle.std.specs.Prelude.{◌≡◌, ℕ, List, [], ◌∷◌, ◌++◌, count_by, length, map, nat_lt, Option, Some, None, if◌then◌else◌}
use Rattle.std.specs.Option.{option_map}
use Rattle.rule_check.specs.Value.{names_of}
use Rattle.rounds_plan.specs.Configs.{Configuration, most_rounds}
use Rattle.rounds_plan.specs.Plans.{PlanView}
use Rattle.rounds_walk.specs.Counts.{has_value}
use Rattle.run_watch.specs.declared.fault.WatchFault.{WatchFault}
use Rattle.run_watch.specs.declared.fault.WatchFault.TheVariants.{TooManyRounds, RoundsBelowStart, NoField}
use Rattle.run_watch.specs.Spans.{SpanView}
use Rattle.run_watch.specs.Watching.{missing_of}
use Rattle.run_counts.specs.declared.asked.Counting.{Counting}
use Rattle.run_counts.specs.declared.asked.Until.{Until}
use Rattle.run_counts.specs.Rows.{AreRows, AreValues, IsRowOf, RowView, count_in}
use Rattle.run_counts.specs.Tables.{table_text}

-- the text is that of exactly the rounds that are counted, with a column for each state, and for each value that occurs in one of them
pub record IsCounted (p : PlanView) (span : SpanView) (counting : Counting) (text : List ℕ) : Type 0 where
  pub rows : List RowView
  pub values : List ℕ
  pub rows_are : AreRows p span counting rows
  pub values_are : AreValues counting.states rows values
  pub spelled : text ≡ table_text counting.format counting.names.now (names_of p.program) counting.figures.now values rows

-- the number that stands under a value is the number of nodes that have it
abbrev pub CellsAreCounts : Type 0
CellsAreCounts =
    (counting : Counting) (c : Configuration) (row : RowView) (v : ℕ) → IsRowOf counting c row → count_in row.counts v ≡ count_by (has_value counting.field v) c.states

-- the place of the field by which rounds end, where they may end early
abbrev pub until_places : Option Until → List ℕ
until_places None = []
until_places (Some until) = until.field ∷ []

-- the places of the fields that are asked for: the counted one, the one by which rounds end, and those of the figures
abbrev pub places_of : Counting → List ℕ
places_of counting = counting.field ∷ (until_places counting.until ++ map (λ f. f.field) counting.figures.now)

-- why there is none, whatever memory there is
abbrev pub refusal_of : PlanView → SpanView → Counting → Option WatchFault
refusal_of p span counting =
    if nat_lt most_rounds span.last then Some TooManyRounds
    else if nat_lt span.first p.start then Some RoundsBelowStart
    else option_map NoField (missing_of (length p.program.fields) (places_of counting))

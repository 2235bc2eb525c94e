-- The text of the means of runs that are counted together.
use Rattle.std.specs.Prelude.{◌≡◌, ℕ, List, [], ◌∷◌, ◌++◌, ◌-◌, Option, Some, None, String, codes, drop, length, map, max, min, nat_lt, slice_get, slice_index_or, take, if◌then◌else◌}
use Rattle.std.specs.Fmt.{decimal}
use Rattle.std.specs.Global.{Global}
use Rattle.std.specs.List.{AllZip, enumerate_from, flat_map, range_with_len}
use Rattle.std.specs.Option.{option_to_list}
use Rattle.run_watch.specs.Spans.{SpanView}
use Rattle.run_counts.specs.declared.asked.CountFormat.{CountFormat}
use Rattle.run_counts.specs.declared.asked.CountFormat.TheVariants.{Csv, Json}
use Rattle.run_counts.specs.declared.asked.Counting.{Counting}
use Rattle.run_counts.specs.declared.asked.Figure.{Figure}
use Rattle.run_counts.specs.declared.asked.Until.{Until}
use Rattle.run_counts.specs.declared.ensemble.Ensemble.{Ensemble}
use Rattle.run_counts.specs.declared.ensemble.Group.{Group}
use Rattle.run_counts.specs.declared.ensemble.Setting.{Setting}
use Rattle.run_counts.specs.declared.mean_columns.Column.{Column}
use Rattle.run_counts.specs.declared.mean_columns.Source.{Source}
use Rattle.run_counts.specs.declared.mean_columns.Source.TheVariants.{Nodes, Further}
use Rattle.run_counts.specs.declared.mean_columns.Statistic.{Statistic}
use Rattle.run_counts.specs.declared.mean_columns.Statistic.TheVariants.{Mean, Deviation, Quantile}
use Rattle.run_counts.specs.Ensembles.{IsRunOf, RunView, names_in, rows_in}
use Rattle.run_counts.specs.Rows.{AreValues, RowView, count_in}
use Rattle.run_counts.specs.Quantiles.{quantile}
use Rattle.run_counts.specs.Settings.{head_text, names_text, settings_of}
use Rattle.run_counts.specs.Spread.{deviation_of, four_digits, mean_of}
use Rattle.run_counts.specs.Tables.{cell_text, figure_name, has_columns, line_end, line_start, value_label}

-- the numbers of a row that are told over all runs: one for each value, where there are not too many, and one for each figure, with its place
abbrev pub sources_of : List ℕ → List Figure → List Source
sources_of values figures = (if has_columns values then map Nodes values else []) ++ map (λ f. Further f.0 f.1) (enumerate_from 0 figures)

-- the column of a quantile of such a number
abbrev pub quantile_column : Source → ℕ → Column
quantile_column source percent = record { source = source; statistic = Quantile percent }

-- what is told of such a number: its mean, its deviation, and these quantiles
abbrev pub columns_for : List ℕ → Source → List Column
columns_for percents source = record { source = source; statistic = Mean } ∷ record { source = source; statistic = Deviation } ∷ map (quantile_column source) percents

-- the columns, one number after the other
abbrev pub columns_of : List ℕ → List Figure → List ℕ → List Column
columns_of values figures percents = flat_map (columns_for percents) (sources_of values figures)

-- the number that a row has: how many nodes have the value, or the figure at the place
abbrev pub number_in : Source → RowView → ℕ
number_in (Nodes value) row = count_in row.counts value
number_in (Further place figure) row = slice_index_or (map (λ f. f.1) row.figures) place 0

-- what a number is called: as in the text of one run
abbrev pub source_name : List (String Global) → List (List ℕ) → Source → List ℕ
source_name labels names (Nodes value) = value_label labels value
source_name labels names (Further place figure) = figure_name names figure

-- what is behind it: what is told of it
abbrev pub statistic_name : Statistic → List ℕ
statistic_name Mean = codes " mean"
statistic_name Deviation = codes " deviation"
statistic_name (Quantile percent) = codes " " ++ (decimal percent ++ codes "%")

-- what a column is called
abbrev pub column_name : List (String Global) → List (List ℕ) → Column → List ℕ
column_name labels names column = source_name labels names column.source ++ statistic_name column.statistic

-- the rows at a place, of the runs that have so many: those of a round, of the runs that go on to it, in the order of the runs
abbrev pub going_at : ℕ → List RunView → List RowView
going_at place runs = flat_map (λ run. option_to_list (slice_get run.rows place)) runs

-- the row that stands for a run at a place: the one at the place, and of a run that has ended before it its last one
abbrev pub held_row : ℕ → List RowView → Option RowView
held_row place rows = slice_get rows (min place (length rows - 1))

-- the rows that stand for the runs at a place, in the order of the runs
abbrev pub rows_at : ℕ → List RunView → List RowView
rows_at place runs = flat_map (λ run. option_to_list (held_row place run.rows)) runs

-- how many rows the runs have at most
abbrev pub longest : List RunView → ℕ
longest [] = 0
longest (run ∷ runs) = max (length run.rows) (longest runs)

-- what stands before a number: a comma, and in JSON what the number is called
abbrev pub cell_start : CountFormat → List ℕ → List ℕ
cell_start Csv heading = codes ","
cell_start Json heading = codes ",\"" ++ (heading ++ codes "\":")

-- what stands for a deviation that is none: there is one run
abbrev pub no_deviation : CountFormat → List ℕ
no_deviation Csv = []
no_deviation Json = codes "null"

-- the standard deviation of the numbers
abbrev pub deviation_text : CountFormat → List ℕ → List ℕ
deviation_text format numbers = if nat_lt 1 (length numbers) then four_digits (deviation_of numbers) else no_deviation format

-- what is told of the numbers of runs; a percent above 100 is as 100
abbrev pub statistic_text : CountFormat → Statistic → List ℕ → List ℕ
statistic_text format Mean numbers = four_digits (mean_of numbers)
statistic_text format Deviation numbers = deviation_text format numbers
statistic_text format (Quantile percent) numbers = decimal (quantile (min percent 100) numbers)

-- the heading of a column
abbrev pub heading_text : List (String Global) → List (List ℕ) → Column → List ℕ
heading_text labels names column = codes "," ++ column_name labels names column

-- what stands in a column, where its number is these in the runs
abbrev pub cell_of : CountFormat → List (String Global) → List (List ℕ) → Column → List ℕ → List ℕ
cell_of format labels names column numbers = cell_start format (column_name labels names column) ++ statistic_text format column.statistic numbers

-- how many runs go on to a round, where runs may end early
abbrev pub going_text : CountFormat → Option Until → ℕ → List ℕ
going_text format None going = []
going_text format (Some until) going = cell_text format (codes "going") going

-- how many runs there are, and how many of them go on to a round
abbrev pub runs_cells : CountFormat → Option Until → ℕ → ℕ → List ℕ
runs_cells format until total going = cell_text format (codes "runs") total ++ going_text format until going

-- the line, after this head, of a round to which some of so many runs go on, with these rows, where these rows stand for all runs: the round, the numbers of runs, and
-- what is told of each column over all runs; none where no run goes on
abbrev pub mean_text : CountFormat → List ℕ → List (String Global) → List (List ℕ) → List Column → Option Until → ℕ → List RowView → List RowView → List ℕ
mean_text format head labels names columns until total [] rows = []
mean_text format head labels names columns until total (first ∷ going) rows =
    line_start format head first.round
    ++ (runs_cells format until total (length (first ∷ going)) ++ (flat_map (λ c. cell_of format labels names c (map (number_in c.source) rows)) columns ++ line_end format))

-- the heading above how many runs go on, where runs may end early
abbrev pub going_heading : Option Until → List ℕ
going_heading None = []
going_heading (Some until) = codes ",going"

-- the line of the headings, in CSV alone: what varies from group to group comes first
abbrev pub means_opening : CountFormat → List Setting → List (String Global) → List (List ℕ) → List Column → Option Until → List ℕ
means_opening Csv settings labels names columns until =
    names_text settings ++ (codes "round,runs" ++ (going_heading until ++ (flat_map (heading_text labels names) columns ++ codes "\n")))
means_opening Json settings labels names columns until = []

-- the line of the round at a place
abbrev pub line_at : CountFormat → List ℕ → List (String Global) → List (List ℕ) → List Column → Option Until → List RunView → ℕ → List ℕ
line_at format head labels names columns until runs k = mean_text format head labels names columns until (length runs) (going_at k runs) (rows_at k runs)

-- the lines of all rounds of the runs of a group, after the values that they have in common
abbrev pub group_text : CountFormat → List (String Global) → List (List ℕ) → List Column → Option Until → List Setting → List RunView → List ℕ
group_text format labels names columns until settings runs =
    flat_map (line_at format (head_text format settings) labels names columns until runs) (range_with_len 0 (longest runs))

-- the lines of groups, each of so many runs: the first of the runs are those of the first group
abbrev pub groups_text : CountFormat → List (String Global) → List (List ℕ) → List Column → Option Until → ℕ → List Group → List RunView → List ℕ
groups_text format labels names columns until size [] runs = []
groups_text format labels names columns until size (g ∷ groups) runs =
    group_text format labels names columns until g.settings.now (take size runs) ++ groups_text format labels names columns until size groups (drop size runs)

-- the lines of all groups after the headings
abbrev pub means_text : CountFormat → List (String Global) → List (List ℕ) → List Column → Option Until → ℕ → List Group → List RunView → List ℕ
means_text format labels names columns until size groups runs =
    means_opening format (settings_of groups) labels names columns until ++ groups_text format labels names columns until size groups runs

-- the text is that of the means, and of the ensemble's quantiles, over the runs of each group, of exactly the rounds that are counted of each run, with columns for each state, and for each value that occurs in one of them
pub record AreMeans (e : Ensemble) (span : SpanView) (counting : Counting) (text : List ℕ) : Type 0 where
  pub runs : List RunView
  pub values : List ℕ
  pub runs_are : AllZip (IsRunOf span counting) e.variants.now runs
  pub values_are : AreValues counting.states (rows_in runs) values
  pub spelled : text ≡ means_text counting.format counting.names.now (names_in e.variants.now) (columns_of values counting.figures.now e.quantiles.now) counting.until e.size e.groups.now runs

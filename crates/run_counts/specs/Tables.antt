-- The text of counted rounds.
use Rattle.std.specs.Prelude.{ℕ, Bool, List, [], ◌++◌, Option, String, codes, length, nat_le, slice_get, slice_index_or, string_bytes, if◌then◌else◌}
use Rattle.std.specs.Fmt.{decimal}
use Rattle.std.specs.Global.{Global}
use Rattle.std.specs.List.{flat_map}
use Rattle.std.specs.Option.{option_map}
use Rattle.run_watch.specs.Watching.{json_label, label_of}
use Rattle.run_counts.specs.declared.asked.CountFormat.{CountFormat}
use Rattle.run_counts.specs.declared.asked.CountFormat.TheVariants.{Csv, Json}
use Rattle.run_counts.specs.declared.asked.Figure.{Figure}
use Rattle.run_counts.specs.Figures.{kind_name}
use Rattle.run_counts.specs.Rows.{RowView, count_in}

-- with as many values as this, each has a column of its own
abbrev pub most_columns : ℕ
most_columns = 64

-- each of the values has a column
abbrev pub has_columns : List ℕ → Bool
has_columns values = nat_le (length values) most_columns

-- what a figure is called, among fields of these names
abbrev pub figure_name : List (List ℕ) → Figure → List ℕ
figure_name names figure = kind_name figure.kind ++ (codes " " ++ slice_index_or names figure.field [])

-- the name of a value among these, where it has one
abbrev pub value_name : List (String Global) → ℕ → Option (List ℕ)
value_name labels v = option_map string_bytes (slice_get labels v)

-- what a value is called: its name, or where it has none its decimal
abbrev pub value_label : List (String Global) → ℕ → List ℕ
value_label labels v = label_of (value_name labels v) v

-- the headings of what is counted: each value, or `value` and `nodes` where there are too many
abbrev pub count_headings : List (String Global) → List ℕ → List ℕ
count_headings labels values = if has_columns values then flat_map (λ v. codes "," ++ value_label labels v) values else codes ",value,nodes"

-- the line of the headings, in CSV alone
abbrev pub opening_text : CountFormat → List (String Global) → List (List ℕ) → List Figure → List ℕ → List ℕ
opening_text Csv labels names figures values = codes "round" ++ (count_headings labels values ++ (flat_map (λ f. codes "," ++ figure_name names f) figures ++ codes "\n"))
opening_text Json labels names figures values = []

-- a number under a heading
abbrev pub cell_text : CountFormat → List ℕ → ℕ → List ℕ
cell_text Csv heading n = codes "," ++ decimal n
cell_text Json heading n = codes ",\"" ++ (heading ++ (codes "\":" ++ decimal n))

-- a value that occurs, in a line of its own
abbrev pub value_cell : CountFormat → List (String Global) → ℕ → List ℕ
value_cell Csv labels v = codes "," ++ value_label labels v
value_cell Json labels v = codes ",\"value\":" ++ json_label (value_name labels v) v

-- what begins a line of round t: what stands before the round, and the round
abbrev pub line_start : CountFormat → List ℕ → ℕ → List ℕ
line_start Csv head t = head ++ decimal t
line_start Json head t = codes "{" ++ (head ++ (codes "\"round\":" ++ decimal t))

-- what ends a line
abbrev pub line_end : CountFormat → List ℕ
line_end Csv = codes "\n"
line_end Json = codes "}\n"

-- the figures of a round, and the end of the line
abbrev pub figures_text : CountFormat → List (List ℕ) → List (Figure × ℕ) → List ℕ
figures_text format names figures = flat_map (λ f. cell_text format (figure_name names f.0) f.1) figures ++ line_end format

-- the line of a round: for each value how many nodes have it, and the figures
abbrev pub wide_text : CountFormat → List (String Global) → List ℕ → List (List ℕ) → List ℕ → RowView → List ℕ
wide_text format labels head names values row =
    line_start format head row.round ++ (flat_map (λ v. cell_text format (value_label labels v) (count_in row.counts v)) values ++ figures_text format names row.figures)

-- the line of a value that occurs in a round: the value, how many nodes have it, and the round's figures
abbrev pub long_text : CountFormat → List (String Global) → List ℕ → List (List ℕ) → RowView → ℕ × ℕ → List ℕ
long_text format labels head names row c =
    line_start format head row.round ++ (value_cell format labels c.0 ++ (cell_text format (codes "nodes") c.1 ++ figures_text format names row.figures))

-- the lines of a round: one where each value has a column, else one for each value that occurs in it
abbrev pub row_text : CountFormat → List (String Global) → List ℕ → List (List ℕ) → List ℕ → RowView → List ℕ
row_text format labels head names values row =
    if has_columns values then wide_text format labels head names values row else flat_map (long_text format labels head names row) row.counts

-- the lines of all rounds after the headings
abbrev pub table_text : CountFormat → List (String Global) → List (List ℕ) → List Figure → List ℕ → List RowView → List ℕ
table_text format labels names figures values rows = opening_text format labels names figures values ++ flat_map (row_text format labels [] names values) rows

-- What a reader of CSV gets back: the numbers of its lines, and the names of values.
use Rattle.std.specs.Prelude.{◌≡◌, ◌<◌, ◌^◌, ℕ, List, [], ◌∷◌, ◌++◌, String, true, All, codes, map, string_bytes}
use Rattle.std.specs.Fmt.{decimal}
use Rattle.std.specs.Global.{Global}
use Rattle.run_watch.specs.Records.{AreNames, IsRecord}
use Rattle.rule_check.specs.WellFormed.{IsFieldName}
use Rattle.run_counts.specs.declared.asked.CountFormat.TheVariants.{Csv}
use Rattle.run_counts.specs.declared.asked.Figure.{Figure}
use Rattle.run_counts.specs.Rows.{RowView, count_in}
use Rattle.run_counts.specs.Tables.{figure_name, has_columns, long_text, opening_text, value_label, wide_text}

-- the figures of a round
abbrev pub figures_in : RowView → List ℕ
figures_in row = map (λ f. f.1) row.figures

-- what stands in the line of a round after its number: for each value how many nodes have it, and the figures
abbrev pub wide_numbers : List ℕ → RowView → List ℕ
wide_numbers values row = map (count_in row.counts) values ++ figures_in row

-- what stands in the line of a value after the value: how many nodes have it, and the figures
abbrev pub long_numbers : RowView → ℕ × ℕ → List ℕ
long_numbers row c = c.1 ∷ figures_in row

-- numbers that fit 64 bits
abbrev pub AreSmall : List ℕ → Type 0
AreSmall numbers = All (λ n. n < 2 ^ 64) numbers

-- the line of a round is one line, which commas cut into the decimals of its numbers
abbrev pub WideLinesAreRecords : Type 0
WideLinesAreRecords =
    (labels : List (String Global)) (names : List (List ℕ)) (values : List ℕ) (row : RowView) → AreSmall (row.round ∷ wide_numbers values row)
    → IsRecord (wide_text Csv labels [] names values row) (map decimal (row.round ∷ wide_numbers values row))

-- the line of a value that occurs in a round is one line, which commas cut into the decimal of the round, what the value is
-- called, and the decimals of the other numbers
abbrev pub LongLinesAreRecords : Type 0
LongLinesAreRecords =
    (labels : List (String Global)) (names : List (List ℕ)) (row : RowView) (c : ℕ × ℕ) → AreNames (map string_bytes labels) → AreSmall (row.round ∷ c.0 ∷ long_numbers row c)
    → IsRecord (long_text Csv labels [] names row c) (decimal row.round ∷ value_label labels c.0 ∷ map decimal (long_numbers row c))

-- the cells of the headings where each value has a column: `round`, what the values are called, and what the figures are called
abbrev pub heading_cells : List (String Global) → List (List ℕ) → List Figure → List ℕ → List (List ℕ)
heading_cells labels names figures values = codes "round" ∷ (map (value_label labels) values ++ map (figure_name names) figures)

-- where each value has a column, the line of the headings is one line, which commas cut into these cells
abbrev pub HeadingsAreRecords : Type 0
HeadingsAreRecords =
    (labels : List (String Global)) (names : List (List ℕ)) (figures : List Figure) (values : List ℕ)
    → has_columns values ≡ true → AreNames (map string_bytes labels) → AreSmall values → All IsFieldName names
    → IsRecord (opening_text Csv labels names figures values) (heading_cells labels names figures values)

-- two values that are called the same are one
abbrev pub ValuesAreTold : Type 0
ValuesAreTold = (labels : List (String Global)) (v w : ℕ) → AreNames (map string_bytes labels) → v < 2 ^ 32 → w < 2 ^ 32 → value_label labels v ≡ value_label labels w → v ≡ w

-- What a reader of CSV gets back: the cells of its lines.
use Rattle.std.specs.Prelude.{◌≡◌, ◌≢◌, ◌<◌, ◌^◌, ◌==◌, ℕ, Bool, List, [], ◌∷◌, ◌++◌, All, codes, length, map, slice_get, slice_index, slice_index_or, string_bytes}
use Rattle.std.specs.Fmt.{decimal}
use Rattle.std.specs.List.{IsDistinct, slice_split}
use Rattle.std.specs.Option.{option_map}
use Rattle.std.specs.Str.{bytes_eq}
use Rattle.rule_lang.specs.Tokens.{IsWord}
use Rattle.rule_check.specs.declared.state.State.{State}
use Rattle.rule_check.specs.WellFormed.{IsFieldName}
use Rattle.run_watch.specs.declared.show.Format.TheVariants.{Csv}
use Rattle.run_watch.specs.declared.show.Show.{Show}
use Rattle.run_watch.specs.Watching.{label_of, opening_text, row_text, value_name}

-- what stands for a node: its label, or past the last its number
abbrev pub node_name : Show → ℕ → List ℕ
node_name show u = label_of (option_map string_bytes (slice_get show.labels.now u)) u

-- the names of the shown fields, in order
abbrev pub shown_names : Show → List (List ℕ) → List (List ℕ)
shown_names show names = map (λ k. slice_index_or names k []) show.fields.now

-- the values of the shown fields, in order
abbrev pub shown_values : Show → State → List ℕ
shown_values show state = map (λ k. slice_index state.words k) show.fields.now

-- what stands for the value of the field at a place: the value's name, or where it has none its decimal
abbrev pub value_label : Show → State → ℕ → List ℕ
value_label show state k = label_of (value_name show k (slice_index state.words k)) (slice_index state.words k)

-- what stands for the values of the shown fields, in order
abbrev pub shown_labels : Show → State → List (List ℕ)
shown_labels show state = map (value_label show state) show.fields.now

-- the byte is a comma
abbrev pub is_comma : ℕ → Bool
is_comma b = b == 44

-- the text has no comma (44) and no LF (10)
abbrev pub IsPlain : List ℕ → Type 0
IsPlain text = All (λ b. (b ≢ 44) × (b ≢ 10)) text

-- the text is one line, with LF at its end alone, and what stands before the LF, cut at its commas, is these cells
pub record IsRecord (text : List ℕ) (cells : List (List ℕ)) : Type 0 where
  pub line : List ℕ
  pub ended : text ≡ line ++ codes "\n"
  pub one : All (λ b. b ≢ 10) line
  pub cut : slice_split is_comma line ≡ cells

-- the cells of the headings: `round`, `node`, and the names of the shown fields
abbrev pub heading_cells : Show → List (List ℕ) → List (List ℕ)
heading_cells show names = codes "round" ∷ codes "node" ∷ shown_names show names

-- the cells of a line: the decimal of the round, what stands for the node, and what stands for the shown fields' values
abbrev pub row_cells : Show → ℕ → ℕ → State → List (List ℕ)
row_cells show t u state = decimal t ∷ node_name show u ∷ shown_labels show state

-- names of values: words, each once
pub record AreNames (names : List (List ℕ)) : Type 0 where
  pub words : All IsWord names
  pub once : IsDistinct bytes_eq names

-- CSV is shown, with labels that have no comma and no LF, and names of values that are words, each once in its field
pub record ShowsCsv (show : Show) : Type 0 where
  pub csv : show.format ≡ Csv
  pub labels : All (λ label. IsPlain (string_bytes label)) show.labels.now
  pub names : All (λ names. AreNames (map string_bytes names.items)) show.names.now

-- the numbers of a line fit 32 bits: the round, the node and the words of its state
pub record AreWords (t u : ℕ) (state : State) : Type 0 where
  pub round : t < 2 ^ 32
  pub node : u < 2 ^ 32
  pub words : All (λ w. w < 2 ^ 32) state.words

-- a line of CSV is its cells
abbrev pub CsvRowsAreRecords : Type 0
CsvRowsAreRecords = (show : Show) (names : List (List ℕ)) (t u : ℕ) (state : State) → ShowsCsv show → AreWords t u state → IsRecord (row_text show names t u state) (row_cells show t u state)

-- the line of the headings of a program's fields is its cells; they are as many as those of each line
abbrev pub CsvHeadingsAreRecords : Type 0
CsvHeadingsAreRecords =
    (show : Show) (names : List (List ℕ)) → ShowsCsv show → All IsFieldName names
    → IsRecord (opening_text show names) (heading_cells show names) × ((t u : ℕ) (state : State) → length (row_cells show t u state) ≡ length (heading_cells show names))

-- the two lines are of the same round, of nodes that the same stands for, the same node where there are no labels, and
-- of the same values of the shown fields
pub record SameRow (show : Show) (t u s w : ℕ) (old new : State) : Type 0 where
  pub round : t ≡ s
  pub name : node_name show u ≡ node_name show w
  pub node : show.labels.now ≡ [] → u ≡ w
  pub values : shown_values show old ≡ shown_values show new

-- two lines of CSV that are equal say the same
abbrev pub CsvRowsTell : Type 0
CsvRowsTell =
    (show : Show) (names : List (List ℕ)) (t u s w : ℕ) (old new : State) → ShowsCsv show → AreWords t u old → AreWords s w new
    → row_text show names t u old ≡ row_text show names s w new → SameRow show t u s w old new

-- What a reader of the CSV gets back: the cells of its lines.
use Rattle.std.specs.Prelude.{◌≡◌, ◌<◌, ◌≤◌, ◌^◌, ℕ, List, ◌∷◌, String, All, codes, length, map, string_bytes, take}
use Rattle.std.specs.Fmt.{decimal}
use Rattle.std.specs.Global.{Global, Vec}
use Rattle.rule_check.specs.declared.state.State.{State}
use Rattle.rule_check.specs.WellFormed.{IsFieldName}
use Rattle.run_watch.specs.Records.{AreNames, IsRecord}
use Rattle.run_watch.specs.StatesCsv.{csv_line, heading_line, value_texts}

-- the names of each field's values are words, each once in its field
abbrev pub AreValueNames : List (Vec (String Global)) → Type 0
AreValueNames names = All (λ ns. AreNames (map string_bytes ns.items)) names

-- the numbers of a line fit 32 bits: the node and the words of its state
pub record FitLine (u : ℕ) (state : State) : Type 0 where
  pub node : u < 2 ^ 32
  pub words : All (λ w. w < 2 ^ 32) state.words

-- the cells of the headings: `node`, and the names of the fields
abbrev pub heading_cells : List (List ℕ) → List (List ℕ)
heading_cells fields = codes "node" ∷ fields

-- the cells of the line of a node: the decimal of its number, and what stands for the values of the fields
abbrev pub line_cells : List (Vec (String Global)) → ℕ → ℕ → State → List (List ℕ)
line_cells names fields u state = decimal u ∷ value_texts names 0 (take fields state.words)

-- the line of a node is its cells
abbrev pub StateLinesAreRecords : Type 0
StateLinesAreRecords =
    (names : List (Vec (String Global))) (fields u : ℕ) (state : State) → AreValueNames names → FitLine u state
    → IsRecord (csv_line names fields u state) (line_cells names fields u state)

-- the line of the headings is its cells; they are as many as those of each line
abbrev pub StateHeadingsAreRecords : Type 0
StateHeadingsAreRecords =
    (names : List (Vec (String Global))) (fields : List (List ℕ)) → All IsFieldName fields
    → IsRecord (heading_line fields) (heading_cells fields)
    × ((u : ℕ) (state : State) → length fields ≤ length state.words → length (line_cells names (length fields) u state) ≡ length (heading_cells fields))

-- the two lines are of the same node and of the same values of the fields
pub record SameLine (fields u w : ℕ) (old new : State) : Type 0 where
  pub node : u ≡ w
  pub values : take fields old.words ≡ take fields new.words

-- two lines that are equal say the same
abbrev pub StateLinesTell : Type 0
StateLinesTell =
    (names : List (Vec (String Global))) (fields u w : ℕ) (old new : State) → AreValueNames names → FitLine u old → FitLine w new
    → csv_line names fields u old ≡ csv_line names fields w new → SameLine fields u w old new

-- The states of all nodes as CSV.
use Rattle.std.specs.Prelude.{ℕ, ◌+◌, List, [], ◌∷◌, ◌++◌, String, codes, length, slice_get, string_bytes, take}
use Rattle.std.specs.Fmt.{decimal}
use Rattle.std.specs.Global.{Global, Vec}
use Rattle.std.specs.List.{flat_map}
use Rattle.std.specs.Option.{option_map}
use Rattle.rule_check.specs.declared.state.State.{State}
use Rattle.run_watch.specs.Watching.{label_of, names_in}

-- a comma and what stands after it
abbrev pub cell : List ℕ → List ℕ
cell text = codes "," ++ text

-- the line of headings: `node` and the names of the fields in order of declaration
abbrev pub heading_line : List (List ℕ) → List ℕ
heading_line fields = codes "node" ++ (flat_map cell fields ++ codes "\n")

-- what stands for a value of a field whose values have these names, 0 and so on: its name, or where it has none its decimal
abbrev pub value_text : List (String Global) → ℕ → List ℕ
value_text names value = label_of (option_map string_bytes (slice_get names value)) value

-- what stands for the values of the fields from place k on, of which each has names for its values, or none
abbrev pub value_texts : List (Vec (String Global)) → ℕ → List ℕ → List (List ℕ)
value_texts names k [] = []
value_texts names k (value ∷ values) = value_text (names_in (slice_get names k)) value ∷ value_texts names (k + 1) values

-- the line of a node of a program with so many fields: its number and what stands for the values of the fields
abbrev pub csv_line : List (Vec (String Global)) → ℕ → ℕ → State → List ℕ
csv_line names fields u state = decimal u ++ (flat_map cell (value_texts names 0 (take fields state.words)) ++ codes "\n")

-- the lines of nodes from number u on
abbrev pub csv_lines : List (Vec (String Global)) → ℕ → ℕ → List State → List ℕ
csv_lines names fields u [] = []
csv_lines names fields u (state ∷ states) = csv_line names fields u state ++ csv_lines names fields (u + 1) states

-- the states of all nodes of a program with these fields, whose values have these names
abbrev pub csv_text : List (Vec (String Global)) → List (List ℕ) → List State → List ℕ
csv_text names fields states = heading_line fields ++ csv_lines names (length fields) 0 states

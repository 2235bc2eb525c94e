-- The text of a report.
use Rattle.std.specs.Prelude.{ℕ, ◌+◌, List, [], ◌∷◌, ◌++◌, codes}
use Rattle.std.specs.Fmt.{decimal}
use Rattle.rule_check.specs.declared.state.State.{State}
use Rattle.rounds_plan.specs.Configs.{Configuration}

-- one space, the field's name, `=` and the value
abbrev pub field_text : List ℕ → ℕ → List ℕ
field_text name value = codes " " ++ (name ++ (codes "=" ++ decimal value))

-- the fields in order of declaration, with a state's words
abbrev pub fields_text : List (List ℕ) → List ℕ → List ℕ
fields_text [] words = []
fields_text (name ∷ names) [] = []
fields_text (name ∷ names) (w ∷ words) = field_text name w ++ fields_text names words

-- the line of a node: its number and its fields
abbrev pub node_line : List (List ℕ) → ℕ → State → List ℕ
node_line names u state = decimal u ++ (fields_text names state.words ++ 10 ∷ [])

-- the lines of nodes from number u on
abbrev pub node_lines : List (List ℕ) → ℕ → List State → List ℕ
node_lines names u [] = []
node_lines names u (state ∷ states) = node_line names u state ++ node_lines names (u + 1) states

-- the line of the round
abbrev pub round_line : ℕ → List ℕ
round_line rounds = codes "round " ++ (decimal rounds ++ 10 ∷ [])

-- the report of a configuration of a program with these fields
abbrev pub report_text : List (List ℕ) → Configuration → List ℕ
report_text names c = round_line c.rounds ++ node_lines names 0 c.states

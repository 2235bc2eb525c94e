-- What a reader of JSON gets back: an object on each line.
use Rattle.std.specs.Prelude.{◌≡◌, ◌≢◌, ℕ, List, [], ◌∷◌, ◌++◌, All, Option, None, Some, codes, slice_index, slice_index_or, string_bytes}
use Rattle.std.specs.Fmt.{decimal}
use Rattle.json.specs.Json as json
use Rattle.json.specs.Print.{print, quoted}
use Rattle.json.specs.Tree.{HasNumbers, depth, json_tokens}
use Rattle.rule_lang.specs.Tokens.{IsWord}
use Rattle.rule_check.specs.declared.state.State.{State}
use Rattle.rule_check.specs.WellFormed.{IsFieldName}
use Rattle.run_watch.specs.declared.show.Format.TheVariants.{Json}
use Rattle.run_watch.specs.declared.show.Show.{Show}
use Rattle.run_watch.specs.Records.{AreWords, node_name}
use Rattle.run_watch.specs.Watching.{row_text, value_name}

-- a value that has this name, if one: the text of its name, or its number
abbrev pub value_json : Option (List ℕ) → ℕ → json.Json
value_json None value = json.number (decimal value)
value_json (Some name) value = json.string name

-- a member for each of these fields, in order: the field's name and its value in a state
abbrev pub field_members : Show → List (List ℕ) → State → List ℕ → json.Members
field_members show names state [] = json.no_members
field_members show names state (k ∷ fields) =
    json.member (slice_index_or names k []) (value_json (value_name show k (slice_index state.words k)) (slice_index state.words k)) (field_members show names state fields)

-- the object of a line: `round`, `node`, and the shown fields, in this order
abbrev pub row_object : Show → List (List ℕ) → ℕ → json.Json → State → json.Json
row_object show names t node state =
    json.object (json.member (codes "round") (json.number (decimal t)) (json.member (codes "node") node (field_members show names state show.fields.now)))

-- the names of values are words
abbrev pub HasWords : Show → Type 0
HasWords show = All (λ names. All (λ name. IsWord (string_bytes name)) names.items) show.names.now

-- JSON is shown, with names of values that are words, and what stands for node u is the text of this JSON value, no array and no
-- object, on one line
pub record ShowsJson (show : Show) (u : ℕ) (node : json.Json) : Type 0 where
  pub json : show.format ≡ Json
  pub words : HasWords show
  pub text : node_name show u ≡ print (json_tokens node)
  pub numbers : HasNumbers node
  pub flat : depth node ≡ 0
  pub one : All (λ b. b ≢ 10) (node_name show u)

-- the text is one line, with LF at its end alone, and what stands before the LF is the text of this JSON value
pub record IsJsonLine (text : List ℕ) (value : json.Json) : Type 0 where
  pub line : List ℕ
  pub ended : text ≡ line ++ codes "\n"
  pub one : All (λ b. b ≢ 10) line
  pub read : json.document line ≡ Some value

-- a line of JSON is read as its object
abbrev pub JsonRowsAreObjects : Type 0
JsonRowsAreObjects =
    (show : Show) (names : List (List ℕ)) (t u : ℕ) (state : State) (node : json.Json) → ShowsJson show u node → AreWords t u state → All IsFieldName names
    → IsJsonLine (row_text show names t u state) (row_object show names t node state)

-- where there are no labels, what stands for a node is the JSON number of its number
abbrev pub JsonNodesAreNumbers : Type 0
JsonNodesAreNumbers = (show : Show) (t u : ℕ) (state : State) → show.format ≡ Json → HasWords show → show.labels.now ≡ [] → AreWords t u state → ShowsJson show u (json.number (decimal u))

-- a label that is a text in quotes, as JSON spells it, is read as that text
abbrev pub JsonLabelsAreTexts : Type 0
JsonLabelsAreTexts = (show : Show) (u : ℕ) (name : List ℕ) → show.format ≡ Json → HasWords show → node_name show u ≡ quoted name → ShowsJson show u (json.string name)

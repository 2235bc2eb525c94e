-- The value of an expression, and a node's next state.
use Rattle.std.specs.Prelude.{ℕ, ◌+◌, ◌==◌, min, List, [], ◌∷◌, ◌++◌, map, replicate, length, take, ◌-◌, Option, Some, None, if◌then◌else◌, slice_index}
use Rattle.std.specs.Str.{bytes_eq}
use Rattle.std.specs.Option.{option_map_or, option_or}
use Rattle.rule_lang.specs.declared.tree.Agg.{Agg}
use Rattle.rule_lang.specs.Tree.{Tree, NumberTree, OwnTree, IdTree, DegreeTree, RoundTree, NearTree, NearIdTree, NearWeightTree, InfixTree, NotTree, OverTree, ChoiceTree}
use Rattle.rule_check.specs.declared.state.State.{State}
use Rattle.rule_check.specs.declared.state.Near.{Near}
use Rattle.rule_check.specs.declared.parts.Field.{Field}
use Rattle.rule_check.specs.Table.{M, operate, gather}

-- what a field is in the next state
pub record Next : Type 0 where
  pub name : List ℕ
  pub body : Tree

-- a program: its field items and its next items, each in the text's order
pub record Rules : Type 0 where
  pub fields : List Field
  pub nexts : List Next

-- the place of a name among the names
abbrev pub place : List (List ℕ) → List ℕ → ℕ
place [] name = 0
place (x ∷ xs) name = if bytes_eq x name then 0 else place xs name + 1

-- where an expression is valued: at a node in the step from this round, with its degree, its own state and its neighbours
pub record Here : Type 0 where
  pub names : List (List ℕ)
  pub round : ℕ
  pub id : ℕ
  pub degree : ℕ
  pub own : State
  pub nears : List Near

-- a node in the place of a neighbour, on a link of weight 0
abbrev pub alone : ℕ → State → Near
alone id own = record { id = id; weight = 0; state = own }

-- the word of a field
abbrev pub word : List (List ℕ) → State → List ℕ → ℕ
word names state name = slice_index state.words (place names name)

-- the value of an expression, at one neighbour where it stands in an aggregate
abbrev pub value : Here → Tree → Near → ℕ
value here (NumberTree n) near = n
value here (OwnTree name) near = word here.names here.own name
value here IdTree near = here.id
value here DegreeTree near = here.degree
value here RoundTree near = min here.round M
value here (NearTree name) near = word here.names near.state name
value here NearIdTree near = near.id
value here NearWeightTree near = near.weight
value here (InfixTree op a b) near = operate op (value here a near) (value here b near)
value here (NotTree e) near = if value here e near == 0 then 1 else 0
value here (OverTree agg e) near = gather agg (map (value here e) here.nears)
value here (ChoiceTree a b c) near = if value here a near == 0 then value here c near else value here b near

-- an aggregate of an expression
pub record Part : Type 0 where
  pub agg : Agg
  pub body : Tree

-- the aggregates of an expression, in the text's order
abbrev pub parts : Tree → List Part
parts (NumberTree n) = []
parts (OwnTree name) = []
parts IdTree = []
parts DegreeTree = []
parts RoundTree = []
parts (NearTree name) = []
parts NearIdTree = []
parts NearWeightTree = []
parts (InfixTree op a b) = parts a ++ parts b
parts (NotTree e) = parts e
parts (OverTree agg e) = record { agg = agg; body = e } ∷ []
parts (ChoiceTree a b c) = parts a ++ (parts b ++ parts c)

-- the value of an aggregate
abbrev pub gathered_at : Here → Part → ℕ
gathered_at here part = gather part.agg (map (value here part.body) here.nears)

-- the names of a program's fields, in order
abbrev pub names_of : Rules → List (List ℕ)
names_of rules = map (λ f. f.name) rules.fields

-- the expression for a field, if there is one
abbrev pub body_for : List Next → List ℕ → Option Tree
body_for [] name = None
body_for (next ∷ nexts) name = option_or (body_for nexts name) (if bytes_eq name next.name then Some next.body else None)

-- words, each changed by what stands at its place
abbrev pub updated : {A : Type 0} → (A → ℕ → ℕ) → List A → List ℕ → List ℕ
updated change [] words = words
updated change (x ∷ xs) [] = []
updated change (x ∷ xs) (w ∷ words) = change x w ∷ updated change xs words

-- the first n of eight words, and 0 for the others
abbrev pub cleared : ℕ → List ℕ → List ℕ
cleared n words = take n words ++ replicate (8 - n) 0

-- A field's word in the next state, where it had this word. Outside of an aggregate no neighbour is named, and the node stands for one.
abbrev pub next_word : Rules → Here → List ℕ → ℕ → ℕ
next_word rules here name w = option_map_or (λ body. value here body (alone here.id here.own)) (body_for rules.nexts name) w

-- the next state of a node with this degree
abbrev pub next_at : Rules → Here → State
next_at rules here = record { words = updated (next_word rules here) (names_of rules) (cleared (length rules.fields) here.own.words) }

-- a node of a program in the step from a round
abbrev pub here_at : Rules → ℕ → ℕ → ℕ → State → List Near → Here
here_at rules round id degree own nears = record { names = names_of rules; round = round; id = id; degree = degree; own = own; nears = nears }

-- The next state in the step from a round, of the node with this number, this state and these neighbours.
abbrev pub next_state : Rules → ℕ → ℕ → State → List Near → State
next_state rules round id own nears = next_at rules (here_at rules round id (length nears) own nears)

-- the state of each node at first
abbrev pub opening_of : Rules → State
opening_of rules = record { words = updated (λ v w. v) (map (λ f. f.opening) rules.fields) (replicate 8 0) }

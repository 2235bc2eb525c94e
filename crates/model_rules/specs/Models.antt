-- What a model says: what its lets are worth, and the next state of a node.
use Rattle.std.specs.Prelude.{ℕ, zero, suc, Bool, true, false, ◌&&◌, nat_lt, List, [], ◌∷◌, ◌++◌, map, length, Option, Some, None, if◌then◌else◌}
use Rattle.std.specs.Str.{bytes_eq}
use Rattle.std.specs.Option.{option_map_or, option_or}
use Rattle.rule_check.specs.declared.state.State.{State}
use Rattle.rule_check.specs.declared.state.Near.{Near}
use Rattle.rule_check.specs.Value.{Here, place, alone, updated, cleared}
use Rattle.rule_check.specs.WellFormed.{is_among}
use Rattle.model_text.specs.Tree.{Tree, NumberTree, NothingTree, NameTree, IdTree, DegreeTree, RoundTree, NearTree, NearIdTree, NearWeightTree, InfixTree, NotTree, ParensTree, IfTree, CasesTree, CallTree, ApplyTree, ChanceTree, ChanceOfTree, ArmTree, OneArm, ElseArm, ArgumentTree, NoArgument, OneArgument, NameAt, ItemTree, ConstTree, StatesTree, FieldTree, LetTree, NextTree}
use Rattle.model_rules.specs.Meaning.{Worths, Scene, meaning, is_draw}

-- a constant that the caller sets: its name and its value
pub record GivenTree : Type 0 where
  pub name : List ℕ
  pub value : ℕ

-- what belongs to a model beside its items: the constants that the caller sets, and the places of all draws in the text
pub record Setting : Type 0 where
  pub values : List GivenTree
  pub draws : List ℕ

-- the value that the caller gives a constant, if there is one
abbrev pub given_value : List GivenTree → List ℕ → Option ℕ
given_value [] name = None
given_value (g ∷ gs) name = if bytes_eq g.name name then Some g.value else given_value gs name

-- the scene of an expression at a node, outside of aggregates
abbrev pub scene_of : List ℕ → Worths → List (List ℕ) → List ℕ → Here → Scene
scene_of draws worths parameters arguments here = record { draws = draws; parameters = parameters; arguments = arguments; worths = worths; here = here }

-- the value of an expression at a node, outside of aggregates
abbrev pub worth_at : List ℕ → Worths → List (List ℕ) → List ℕ → Tree → Here → ℕ
worth_at draws worths parameters arguments body here = meaning (scene_of draws worths parameters arguments here) body (alone here.id here.own)

-- the names of parameters
abbrev pub bare : List NameAt → List (List ℕ)
bare names = map (λ n. n.name) names

-- what the caller gives, or else this
abbrev pub given_or : Option ℕ → ℕ → ℕ
given_or None v = v
given_or (Some g) v = g

-- an item defines a name: a constant or a let its own, an item of states each state
abbrev pub names_it : ItemTree → List ℕ → Bool
names_it (ConstTree n body) name = bytes_eq n.name name
names_it (StatesTree n members) name = is_among (bare members) name
names_it (FieldTree n states initial) name = false
names_it (LetTree n parameters body) name = bytes_eq n.name name
names_it (NextTree n body) name = false

-- what a name is worth by the item that defines it: a constant what the caller gives it, or else its expression; a state
-- its place; a let its expression, for these values of its parameters
abbrev pub told_by : ItemTree → Setting → Worths → Worths
told_by (ConstTree n body) given worths here name arguments = given_or (given_value given.values name) (worth_at given.draws worths [] [] body here)
told_by (StatesTree n members) given worths here name arguments = place (bare members) name
told_by (FieldTree n states initial) given worths here name arguments = 0
told_by (LetTree n parameters body) given worths here name arguments = worth_at given.draws worths (bare parameters) arguments body here
told_by (NextTree n body) given worths here name arguments = 0

-- what a name is worth by the first item that defines it, and where none does, what the caller gives it, or else 0: so
-- the seed is known of a model that has no constant of its name
abbrev pub told : List ItemTree → Setting → Worths → Worths
told [] given worths here name arguments = given_or (given_value given.values name) 0
told (item ∷ items) given worths here name arguments =
    if names_it item name then told_by item given worths here name arguments else told items given worths here name arguments

-- what names are worth where they are looked up n deep, one in the expression of another, and are 0 below. Where none
-- uses itself, this is the same from some depth on.
abbrev pub worths_by : List ItemTree → Setting → ℕ → Worths
worths_by items given zero here name arguments = 0
worths_by items given (suc n) here name arguments = told items given (worths_by items given n) here name arguments

-- the places of the draws in an expression, in the order of the text
abbrev mutual
  pub draws_in : Tree → List ℕ
  draws_in (NumberTree n at) = []
  draws_in (NothingTree at) = []
  draws_in (NameTree name at) = []
  draws_in (IdTree at) = []
  draws_in (DegreeTree at) = []
  draws_in (RoundTree at) = []
  draws_in (NearTree name at) = []
  draws_in (NearIdTree at) = []
  draws_in (NearWeightTree at) = []
  draws_in (InfixTree o at a b) = draws_in a ++ draws_in b
  draws_in (NotTree at e) = draws_in e
  draws_in (ParensTree at e) = draws_in e
  draws_in (IfTree at a b c) = draws_in a ++ (draws_in b ++ draws_in c)
  draws_in (CasesTree at arms) = arms_draws arms
  draws_in (CallTree f at es) = if is_draw f then at ∷ arguments_draws es else arguments_draws es
  draws_in (ApplyTree name at es) = arguments_draws es
  draws_in (ChanceTree at p) = []
  draws_in (ChanceOfTree at p) = at ∷ []

  pub arms_draws : ArmTree → List ℕ
  arms_draws (OneArm test value rest) = draws_in test ++ (draws_in value ++ arms_draws rest)
  arms_draws (ElseArm value) = draws_in value

  pub arguments_draws : ArgumentTree → List ℕ
  arguments_draws NoArgument = []
  arguments_draws (OneArgument e es) = draws_in e ++ arguments_draws es

-- the places of all draws of a model, in the order of the text
abbrev pub draws_of : List ItemTree → List ℕ
draws_of [] = []
draws_of (ConstTree name body ∷ items) = draws_in body ++ draws_of items
draws_of (StatesTree name members ∷ items) = draws_of items
draws_of (FieldTree name states initial ∷ items) = draws_in initial ++ draws_of items
draws_of (LetTree name parameters body ∷ items) = draws_in body ++ draws_of items
draws_of (NextTree name body ∷ items) = draws_in body ++ draws_of items

-- what belongs to a model of which the caller sets these constants
abbrev pub setting : List ItemTree → List GivenTree → Setting
setting items given = record { values = given; draws = draws_of items }

-- the names of the fields, in order
abbrev pub fields_of : List ItemTree → List (List ℕ)
fields_of [] = []
fields_of (ConstTree name body ∷ items) = fields_of items
fields_of (StatesTree name members ∷ items) = fields_of items
fields_of (FieldTree name states initial ∷ items) = name.name ∷ fields_of items
fields_of (LetTree name parameters body ∷ items) = fields_of items
fields_of (NextTree name body ∷ items) = fields_of items

-- how many states share a name, where there are such
abbrev pub states_count : List ItemTree → List ℕ → Option ℕ
states_count [] name = None
states_count (ConstTree n body ∷ items) name = states_count items name
states_count (StatesTree n members ∷ items) name = if bytes_eq n.name name then Some (length members) else states_count items name
states_count (FieldTree n states initial ∷ items) name = states_count items name
states_count (LetTree n parameters body ∷ items) name = states_count items name
states_count (NextTree n body ∷ items) name = states_count items name

-- a value is one of the states of a field, or the field has none
abbrev pub is_state : List ItemTree → Option NameAt → ℕ → Bool
is_state items None v = true
is_state items (Some states) v = option_map_or (λ count. nat_lt v count) (states_count items states.name) false

-- the initial values of the fields, in order, as their expressions are worth at a node, where the draws stand at these places
abbrev pub initials_of : List ItemTree → List ℕ → Worths → Here → List ℕ
initials_of [] draws worths here = []
initials_of (ConstTree name body ∷ items) draws worths here = initials_of items draws worths here
initials_of (StatesTree name members ∷ items) draws worths here = initials_of items draws worths here
initials_of (FieldTree name states initial ∷ items) draws worths here = worth_at draws worths [] [] initial here ∷ initials_of items draws worths here
initials_of (LetTree name parameters body ∷ items) draws worths here = initials_of items draws worths here
initials_of (NextTree name body ∷ items) draws worths here = initials_of items draws worths here

-- each of these initial values of fields is one of the states of its field, as these are in a model
abbrev pub in_states : List ItemTree → List ItemTree → List ℕ → Bool
in_states model [] values = true
in_states model (ConstTree name body ∷ items) values = in_states model items values
in_states model (StatesTree name members ∷ items) values = in_states model items values
in_states model (FieldTree name states initial ∷ items) [] = false
in_states model (FieldTree name states initial ∷ items) (v ∷ values) = is_state model states v && in_states model items values
in_states model (LetTree name parameters body ∷ items) values = in_states model items values
in_states model (NextTree name body ∷ items) values = in_states model items values

-- the expression for a field's next value, if there is one
abbrev pub body_of : List ItemTree → List ℕ → Option Tree
body_of [] field = None
body_of (ConstTree name body ∷ items) field = body_of items field
body_of (StatesTree name members ∷ items) field = body_of items field
body_of (FieldTree name states initial ∷ items) field = body_of items field
body_of (LetTree name parameters body ∷ items) field = body_of items field
body_of (NextTree name body ∷ items) field = option_or (body_of items field) (if bytes_eq field name.name then Some body else None)

-- a field's word in the next state, where it had this word
abbrev pub next_word_of : List ItemTree → Worths → Here → List ℕ → ℕ → ℕ
next_word_of items worths here field w = option_map_or (λ body. worth_at (draws_of items) worths [] [] body here) (body_of items field) w

-- a node of a model in the step from a round
abbrev pub node_at : List ItemTree → ℕ → ℕ → State → List Near → Here
node_at items round id own nears = record { names = fields_of items; round = round; id = id; degree = length nears; own = own; nears = nears }

-- The next state of a node in the step from a round, with this number, this state and these neighbours.
abbrev pub model_next : List ItemTree → Worths → ℕ → ℕ → State → List Near → State
model_next items worths round id own nears =
    record { words = updated (next_word_of items worths (node_at items round id own nears)) (fields_of items) (cleared (length (fields_of items)) own.words) }

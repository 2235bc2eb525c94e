-- What is wrong with the names of a model.
use Rattle.std.specs.Prelude.{ℕ, ◌+◌, min, ◌||◌, List, [], ◌∷◌, ◌++◌, Option, Some, None, if◌then◌else◌, slice_get, codes}
use Rattle.std.specs.List.{flat_map, filter_map}
use Rattle.std.specs.Str.{bytes_eq}
use Rattle.std.specs.Option.{option_map, option_or}
use Rattle.rule_check.specs.WellFormed.{is_among}
use Rattle.model_text.specs.Tree.{NameAt, ItemTree, ConstTree, StatesTree, FieldTree, LetTree, NextTree}
use Rattle.model_rules.specs.declared.fault.ExpandFault.{ExpandFault}
use Rattle.model_rules.specs.declared.fault.ExpandFault.TheVariants.{At, UnknownGiven}
use Rattle.model_rules.specs.declared.fault.Cause.TheVariants as cause
use Rattle.model_rules.specs.declared.naming.NameKind.{NameKind}
use Rattle.model_rules.specs.declared.naming.NameKind.TheVariants as kind
use Rattle.model_rules.specs.Models.{GivenTree, bare}

-- the names that an item gives: its own, and those of states; a next value gives none
abbrev pub given_by : ItemTree → List NameAt
given_by (ConstTree n body) = n ∷ []
given_by (StatesTree n members) = n ∷ members
given_by (FieldTree n states initial) = n ∷ []
given_by (LetTree n parameters body) = n ∷ []
given_by (NextTree n body) = []

-- all names that are given, in the text's order
abbrev pub names_given : List ItemTree → List NameAt
names_given items = flat_map given_by items

-- the name that an item has in this way: of a field, of the field whose next value it is, of states, of the states that
-- a field has, of a constant
abbrev pub name_as : NameKind → ItemTree → Option NameAt
name_as kind.Field (FieldTree n states initial) = Some n
name_as kind.Field (ConstTree n body) = None
name_as kind.Field (StatesTree n members) = None
name_as kind.Field (LetTree n parameters body) = None
name_as kind.Field (NextTree n body) = None
name_as kind.Target (NextTree n body) = Some n
name_as kind.Target (ConstTree n body) = None
name_as kind.Target (StatesTree n members) = None
name_as kind.Target (FieldTree n states initial) = None
name_as kind.Target (LetTree n parameters body) = None
name_as kind.States (StatesTree n members) = Some n
name_as kind.States (ConstTree n body) = None
name_as kind.States (FieldTree n states initial) = None
name_as kind.States (LetTree n parameters body) = None
name_as kind.States (NextTree n body) = None
name_as kind.StatesUsed (FieldTree n states initial) = states
name_as kind.StatesUsed (ConstTree n body) = None
name_as kind.StatesUsed (StatesTree n members) = None
name_as kind.StatesUsed (LetTree n parameters body) = None
name_as kind.StatesUsed (NextTree n body) = None
name_as kind.Constant (ConstTree n body) = Some n
name_as kind.Constant (StatesTree n members) = None
name_as kind.Constant (FieldTree n states initial) = None
name_as kind.Constant (LetTree n parameters body) = None
name_as kind.Constant (NextTree n body) = None

-- all names of this kind, in the text's order
abbrev pub names_as : NameKind → List ItemTree → List NameAt
names_as k items = filter_map (name_as k) items

-- the place of the first of these names that is among those before it, where others stand before them all
abbrev pub repeat_after : List (List ℕ) → List NameAt → Option ℕ
repeat_after before [] = None
repeat_after before (n ∷ ns) = if is_among before n.name then Some n.at else repeat_after (before ++ n.name ∷ []) ns

-- the place of the first of these names that is none of those
abbrev pub stray : List (List ℕ) → List NameAt → Option ℕ
stray names [] = None
stray names (n ∷ ns) = if is_among names n.name then stray names ns else Some n.at

-- the place of a name in a list
abbrev pub place_at : List NameAt → ℕ → Option ℕ
place_at names k = option_map (λ n. n.at) (slice_get names k)

-- the place of the first 257th state
abbrev pub extra_state : List ItemTree → Option ℕ
extra_state [] = None
extra_state (ConstTree n body ∷ items) = extra_state items
extra_state (StatesTree n members ∷ items) = option_or (place_at members 256) (extra_state items)
extra_state (FieldTree n states initial ∷ items) = extra_state items
extra_state (LetTree n parameters body ∷ items) = extra_state items
extra_state (NextTree n body ∷ items) = extra_state items

-- the place of the first parameter that is among these names or the parameters before it
abbrev pub parameter_twice : List (List ℕ) → List ItemTree → Option ℕ
parameter_twice names [] = None
parameter_twice names (ConstTree n body ∷ items) = parameter_twice names items
parameter_twice names (StatesTree n members ∷ items) = parameter_twice names items
parameter_twice names (FieldTree n states initial ∷ items) = parameter_twice names items
parameter_twice names (LetTree n parameters body ∷ items) = option_or (repeat_after names parameters) (parameter_twice names items)
parameter_twice names (NextTree n body ∷ items) = parameter_twice names items

-- the place of the first of these names that is `seed`
abbrev pub seed_in : List NameAt → Option ℕ
seed_in [] = None
seed_in (n ∷ ns) = if bytes_eq n.name (codes "seed") then Some n.at else seed_in ns

-- the place of the first state, or of the let, of an item that is called so
abbrev pub seed_by : ItemTree → Option ℕ
seed_by (ConstTree n body) = None
seed_by (StatesTree n members) = seed_in members
seed_by (FieldTree n states initial) = None
seed_by (LetTree n parameters body) = seed_in (n ∷ [])
seed_by (NextTree n body) = None

-- the place of the first state or let that is called `seed`, as the constant that each model has
abbrev pub seed_taken : List ItemTree → Option ℕ
seed_taken [] = None
seed_taken (item ∷ items) = option_or (seed_by item) (seed_taken items)

-- of two places the first in the text
abbrev pub earlier : Option ℕ → Option ℕ → Option ℕ
earlier None right = right
earlier (Some a) None = Some a
earlier (Some a) (Some b) = Some (min a b)

-- the place of the first name that is there twice: one that a name before has, a parameter with the name of an item or a state or of a
-- parameter before it, a state or a let called `seed`
abbrev pub name_twice : List ItemTree → Option ℕ
name_twice items =
    earlier (earlier (repeat_after [] (names_given items)) (parameter_twice (bare (names_given items)) items)) (seed_taken items)

-- of the constants that the caller sets, the place in their list of the first that the model does not have, counted from
-- this number; each model has the constant `seed`
abbrev pub unknown_given : List (List ℕ) → ℕ → List GivenTree → Option ℕ
unknown_given names k [] = None
unknown_given names k (g ∷ gs) = if bytes_eq g.name (codes "seed") || is_among names g.name then unknown_given names (k + 1) gs else Some k

-- what is wrong with the names that items give: the first in this order
abbrev pub misnamed : List ItemTree → Option ExpandFault
misnamed items =
    option_or (option_map (At cause.TooManyStates) (extra_state items))
    (option_map (At cause.NameTwice) (name_twice items))

-- what is wrong with the next values and the states of these fields: the first in this order
abbrev pub misused : List NameAt → List ItemTree → Option ExpandFault
misused fields items =
    option_or (option_map (At cause.NextTwice) (repeat_after [] (names_as kind.Target items)))
    (option_or (option_map (At cause.NoField) (stray (bare fields) (names_as kind.Target items)))
    (option_map (At cause.UnknownStates) (stray (bare (names_as kind.States items)) (names_as kind.StatesUsed items))))

-- what is wrong with the names of a model, where the caller sets these constants: the first in this order
abbrev pub naming_fault : List ItemTree → List GivenTree → Option ExpandFault
naming_fault items given =
    option_or (option_map (At cause.TooManyFields) (place_at (names_as kind.Field items) 8))
    (option_or (misnamed items)
    (option_or (misused (names_as kind.Field items) items)
    (option_map UnknownGiven (unknown_given (bare (names_as kind.Constant items)) 0 given))))

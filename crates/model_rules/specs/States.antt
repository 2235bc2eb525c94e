-- The names of the values of a model's fields.
use Rattle.std.specs.Prelude.{ℕ, ◌≡◌, List, [], ◌∷◌, Option, Some, None, if◌then◌else◌, String, map, string_bytes}
use Rattle.std.specs.Global.{Global, Vec}
use Rattle.std.specs.Str.{bytes_eq}
use Rattle.model_text.specs.Tree.{NameAt, ItemTree, ConstTree, StatesTree, FieldTree, LetTree, NextTree}
use Rattle.model_text.specs.Models.{HasModel}

-- texts in memory, by their bytes
abbrev pub texts_of : List (Vec (String Global)) → List (List (List ℕ))
texts_of texts = map (λ v. map string_bytes v.items) texts

-- names without their places
abbrev pub spellings : List NameAt → List (List ℕ)
spellings names = map (λ n. n.name) names

-- the members of the states of a name, the first item of states with it; none where no item has it
abbrev pub members_of : List ItemTree → List ℕ → List (List ℕ)
members_of [] name = []
members_of (ConstTree n body ∷ items) name = members_of items name
members_of (StatesTree n members ∷ items) name = if bytes_eq n.name name then spellings members else members_of items name
members_of (FieldTree n states initial ∷ items) name = members_of items name
members_of (LetTree n parameters body ∷ items) name = members_of items name
members_of (NextTree n body ∷ items) name = members_of items name

-- the names of the values of a field with these states; none where it has no states
abbrev pub names_for : List ItemTree → Option NameAt → List (List ℕ)
names_for model None = []
names_for model (Some states) = members_of model states.name

-- for each field among items of a model, in order, the names of its values
abbrev pub states_of : List ItemTree → List ItemTree → List (List (List ℕ))
states_of model [] = []
states_of model (ConstTree n body ∷ items) = states_of model items
states_of model (StatesTree n members ∷ items) = states_of model items
states_of model (FieldTree n states initial ∷ items) = names_for model states ∷ states_of model items
states_of model (LetTree n parameters body ∷ items) = states_of model items
states_of model (NextTree n body ∷ items) = states_of model items

-- for each field of the model that a text is, in order, the names of its values 0, 1 and so on
pub record AreFieldStates (text : List ℕ) (names : List (List (List ℕ))) : Type 0 where
  pub items : List ItemTree
  pub model : HasModel text items
  pub each : names ≡ states_of items items

-- What is known of names, without where it lies in memory.
use Rattle.std.specs.Borrow.{Bor}
use Rattle.std.specs.Prelude.{ℕ, ◌≡◌, List, map, Some, slice_get, string_bytes}
use Rattle.model_text.specs.declared.tree.Name.{Name}
use Rattle.model_text.specs.Tree.{NameAt, ItemTree}
use Rattle.model_text.specs.View.{name_of}
use Rattle.model_rules.specs.declared.scope.Given.{Given}
use Rattle.model_rules.specs.declared.scope.Known.{Known}
use Rattle.model_rules.specs.declared.scope.Scope.{Scope}
use Rattle.model_rules.specs.TermView.{term_of}
use Rattle.model_rules.specs.Terms.{NumberTerm}
use Rattle.model_rules.specs.Meaning.{seed_name}
use Rattle.model_rules.specs.Frames.{KnownTree, Frame}
use Rattle.model_rules.specs.Models.{GivenTree, Setting, draws_of, fields_of}
use Rattle.model_rules.specs.Definitions.{names_defined}

-- a let whose term is known
abbrev pub known_of : Known → KnownTree
known_of known = record { name = string_bytes known.name; is_let = known.is_let; count = known.count; term = term_of known.term }

abbrev pub knowns_of : List Known → List KnownTree
knowns_of lets = map known_of lets

-- what is known
abbrev pub frame_of : Scope → Frame
frame_of scope =
    record {
      draws = scope.draws.items;
      fields = map string_bytes scope.fields.items;
      lets = knowns_of scope.lets.items;
      parameters = map string_bytes scope.parameters.items;
    }

-- the names of all constants, states and lets
abbrev pub later_of : Scope → List (List ℕ)
later_of scope = map string_bytes scope.later.items

-- a let is one of these
abbrev pub IsLet : List KnownTree → KnownTree → Type 0
IsLet lets known = (k : ℕ) × (slice_get lets k ≡ Some known)

-- the seed is known to be this number: a let of its name is
pub record IsSeedLet (lets : List KnownTree) (seed : ℕ) : Type 0 where
  pub known : KnownTree
  pub among : IsLet lets known
  pub named : known.name ≡ seed_name
  pub number : known.term ≡ NumberTerm seed

-- the constants that the caller sets
abbrev pub givens_of : List Given → List GivenTree
givens_of given = map (λ g. record { name = string_bytes g.name; value = g.value }) given

-- names that are looked at, with their places
abbrev pub named : List (Bor Name) → List NameAt
named names = map (λ n. name_of n.now) names

-- what belongs to a model of which this is known, where the caller sets these constants
abbrev pub setting_in : List GivenTree → Scope → Setting
setting_in values scope = record { values = values; draws = scope.draws.items }

-- what is known belongs to a model with these items: the places of its draws, its fields, and the names of its constants, states and lets
pub record IsScopeOf (items : List ItemTree) (scope : Scope) : Type 0 where
  pub draws : scope.draws.items ≡ draws_of items
  pub fields : map string_bytes scope.fields.items ≡ fields_of items
  pub later : later_of scope ≡ names_defined items

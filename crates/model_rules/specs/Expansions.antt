-- The program that a model is expanded to.
use Rattle.std.specs.Prelude.{ℕ, ◌≡◌, ◌≤◌, List, [], ◌∷◌, length, true, Option, Some, None}
use Rattle.std.specs.List.{AllByRecursion}
use Rattle.rule_lang.specs.Tree.{Tree as Body, ItemTree as RuleTree, FieldTree as FieldRule, NextTree as NextRule}
use Rattle.rule_check.specs.Value.{Here, alone}
use Rattle.model_text.specs.Tree.{Tree, ItemTree, ConstTree, StatesTree, FieldTree, LetTree, NextTree}
use Rattle.model_rules.specs.Terms.{NumberTerm, TermTree, lowered, term_value}
use Rattle.model_rules.specs.Meaning.{Worths}
use Rattle.model_rules.specs.Frames.{Frame, KnownTree, IsWorth, Means}
use Rattle.model_rules.specs.Models.{Setting, given_or, given_value, is_state, told, told_by, worths_by}

-- what the rules of items of a model are, where this is known: for a field one with the value of its initial expression,
-- which is one of its states, for a next value one with an expression that is worth what it is, and none for the others
abbrev pub Expands : List ItemTree → Frame → List ItemTree → List RuleTree → Type 0
Expands model frame [] rules = rules ≡ []
Expands model frame (ConstTree name body ∷ items) rules = Expands model frame items rules
Expands model frame (StatesTree name members ∷ items) rules = Expands model frame items rules
Expands model frame (FieldTree name states initial ∷ items) rules =
    (v : ℕ) × (rest : List RuleTree) × (rules ≡ FieldRule name.name v ∷ rest) × Means frame initial (NumberTerm v) × (is_state model states v ≡ true) × Expands model frame items rest
Expands model frame (LetTree name parameters body ∷ items) rules = Expands model frame items rules
Expands model frame (NextTree name body ∷ items) rules =
    (t : TermTree) × (rest : List RuleTree) × (rules ≡ NextRule name.name (lowered t) ∷ rest) × Means frame body t × Expands model frame items rest

-- an item is the first of these that defines the name
pub record Finds (items : List ItemTree) (name : List ℕ) (item : ItemTree) : Type 0 where
  pub same : (given : Setting) (worths : Worths) (here : Here) (arguments : List ℕ) → told items given worths here name arguments ≡ told_by item given worths here name arguments

-- none of these items defines the name: it is worth what the caller gives it, or else 0
pub record IsLeftOut (items : List ItemTree) (name : List ℕ) : Type 0 where
  pub same : (given : Setting) (worths : Worths) (here : Here) (arguments : List ℕ) → told items given worths here name arguments ≡ given_or (given_value given.values name) 0

-- the item tells a name to be worth what this let is, where those before it are known
pub record Tells (fields : List (List ℕ)) (lets : List KnownTree) (given : Setting) (name : List ℕ) (item : ItemTree) (known : KnownTree) : Type 0 where
  pub named : known.name ≡ name
  pub same : (worths : Worths) → AllByRecursion (IsWorth worths fields) lets → (here : Here) (arguments : List ℕ) → here.names ≡ fields
      → told_by item given worths here name arguments ≡ term_value here arguments known.term (alone here.id here.own)

-- the lets are worth what their terms are, from the depth of their number on
pub record AreStable (items : List ItemTree) (given : Setting) (fields : List (List ℕ)) (lets : List KnownTree) : Type 0 where
  pub same : (n : ℕ) → length lets ≤ n → AllByRecursion (IsWorth (worths_by items given n) fields) lets

-- the rule of an item, if it has one
abbrev pub IsRuleOf : List ItemTree → Frame → ItemTree → Option RuleTree → Type 0
IsRuleOf model frame (ConstTree name body) rule = rule ≡ None
IsRuleOf model frame (StatesTree name members) rule = rule ≡ None
IsRuleOf model frame (FieldTree name states initial) rule = (v : ℕ) × (rule ≡ Some (FieldRule name.name v)) × Means frame initial (NumberTerm v) × (is_state model states v ≡ true)
IsRuleOf model frame (LetTree name parameters body) rule = rule ≡ None
IsRuleOf model frame (NextTree name body) rule = (t : TermTree) × (rule ≡ Some (NextRule name.name (lowered t))) × Means frame body t

-- an expression of the rule language that is worth what one of a model is
abbrev pub IsBodyOf : Frame → Tree → Body → Type 0
IsBodyOf frame tree body = (t : TermTree) × (body ≡ lowered t) × Means frame tree t

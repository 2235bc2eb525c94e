-- What is wrong with an item of a model, where this is known.
use Rattle.std.specs.Prelude.{◌≡◌, ◌⊎◌, ℕ, ◌<◌, ◌≤◌, true, false, List, [], ◌∷◌, ◌++◌, length, Option, Some, None}
use Rattle.rule_lang.specs.Tree.{ItemTree as RuleTree, depth}
use Rattle.rule_lang.specs.Canonical.{program_text}
use Rattle.rule_check.specs.Items.{nexts_of}
use Rattle.rule_check.specs.Value.{place}
use Rattle.rule_check.specs.WellFormed.{is_among, all_parts}
use Rattle.model_text.specs.Tree.{Tree, NameAt, ItemTree, ConstTree, StatesTree, FieldTree, LetTree, NextTree}
use Rattle.model_rules.specs.declared.fault.Cause.{Cause}
use Rattle.model_rules.specs.declared.fault.Cause.TheVariants as cause
use Rattle.model_rules.specs.declared.fault.ExpandFault.{ExpandFault}
use Rattle.model_rules.specs.declared.fault.ExpandFault.TheVariants as fault
use Rattle.model_rules.specs.Terms.{TermTree, lowered}
use Rattle.model_rules.specs.Constants.{amount_in, is_fixed}
use Rattle.model_rules.specs.Frames.{Frame}
use Rattle.model_rules.specs.Models.{GivenTree, bare, given_value, is_state}
use Rattle.model_rules.specs.TermFor.{term_for}
use Rattle.model_rules.specs.Bounds.{form_cause}
use Rattle.model_rules.specs.Definitions.{under}
use Rattle.model_rules.specs.Faults.{name_place, rules_made}
use Rattle.model_rules.specs.Kinds.{IsOut}
use Rattle.model_rules.specs.FirstWrong.{IsToldOf}

-- a fault of the first kind, or, where none of that kind is there, one of the second
abbrev pub OrElse : (ExpandFault → Type 0) → (ExpandFault → Type 0) → ExpandFault → Type 0
OrElse First Second found = First found ⊎ (((other : ExpandFault) → First other → ⊥) × Second found)

-- a fault of an expression outside of aggregates, of the item at a place
abbrev pub IsExpressionFault : Frame → List (List ℕ) → Tree → ℕ → ExpandFault → Type 0
IsExpressionFault frame later tree at found = IsToldOf frame later tree at (Some found)

-- why what is to be a constant is none: by its form, or else since it is out of range
abbrev pub IsNoConstantAs : TermTree → Cause → Type 0
IsNoConstantAs t cause.NotConstant = is_fixed t ≡ false
IsNoConstantAs t cause.OutOfRange = (is_fixed t ≡ true) × IsOut t
IsNoConstantAs t other = ⊥

abbrev pub IsConstantFault : TermTree → ℕ → ExpandFault → Type 0
IsConstantFault t at found = (why : Cause) × IsNoConstantAs t why × (found ≡ fault.At why at)

-- a fault of an expression that has to be a constant
abbrev pub IsValueFault : Frame → List (List ℕ) → Tree → ℕ → ExpandFault → Type 0
IsValueFault frame later tree at = OrElse (IsExpressionFault frame later tree at) (IsConstantFault (term_for frame tree) at)

-- a term is deeper than 64, of the item at a place
abbrev pub IsDeepFault : TermTree → ℕ → ExpandFault → Type 0
IsDeepFault t at found = (64 < depth (lowered t)) × (found ≡ fault.At cause.TooDeep at)

-- a fault of the expression of a let or of a next value
abbrev pub IsBodyFault : Frame → List (List ℕ) → Tree → ℕ → ExpandFault → Type 0
IsBodyFault frame later tree at = OrElse (IsExpressionFault frame later tree at) (IsDeepFault (term_for frame tree) at)

-- a state is none of the first 256 of its item
abbrev pub IsMemberFault : List (List ℕ) → List ℕ → ℕ → ExpandFault → Type 0
IsMemberFault members name at found = (is_among members name ≡ true) × (256 ≤ place members name) × (found ≡ fault.At cause.TooManyStates at)

-- A fault of the item that defines a name: of a constant that the caller does not set, of a state, of a let.
abbrev pub IsDefinitionFault : List GivenTree → Frame → List (List ℕ) → List ℕ → ItemTree → ExpandFault → Type 0
IsDefinitionFault values frame later name (ConstTree n body) found = (given_value values name ≡ None) × IsValueFault (under frame []) later body n.at found
IsDefinitionFault values frame later name (StatesTree n members) found = IsMemberFault (bare members) name n.at found
IsDefinitionFault values frame later name (FieldTree n states initial) found = ⊥
IsDefinitionFault values frame later name (LetTree n parameters body) found = IsBodyFault (under frame (bare parameters)) later body n.at found
IsDefinitionFault values frame later name (NextTree n body) found = ⊥

-- the initial value of a field is none of its states
abbrev pub IsStateFault : List ItemTree → Option NameAt → ℕ → ℕ → ExpandFault → Type 0
IsStateFault model states v at found = (is_state model states v ≡ false) × (found ≡ fault.At cause.NoState at)

-- a program with these fields may not have a next value
abbrev pub IsFormFault : List (List ℕ) → TermTree → ℕ → ExpandFault → Type 0
IsFormFault fields t at found = (why : Cause) × (form_cause fields (lowered t) ≡ Some why) × (found ≡ fault.At why at)

-- a fault of a field or of a next value by itself
abbrev pub IsOwnFault : List ItemTree → Frame → List (List ℕ) → ItemTree → ExpandFault → Type 0
IsOwnFault model frame later (ConstTree n body) found = ⊥
IsOwnFault model frame later (StatesTree n members) found = ⊥
IsOwnFault model frame later (FieldTree n states initial) found =
    OrElse (IsValueFault frame later initial n.at) (IsStateFault model states (amount_in (term_for frame initial)) n.at) found
IsOwnFault model frame later (LetTree n parameters body) found = ⊥
IsOwnFault model frame later (NextTree n body) found = OrElse (IsBodyFault frame later body n.at) (IsFormFault frame.fields (term_for frame body) n.at) found

-- why rules are too many: they have more than 16 aggregates, or else more than 65,536 bytes
abbrev pub IsTooLargeAs : List RuleTree → Cause → Type 0
IsTooLargeAs rules cause.TooManyAggregates = 16 < length (all_parts (nexts_of rules))
IsTooLargeAs rules cause.TooLong = (length (all_parts (nexts_of rules)) ≤ 16) × (65536 < length (program_text rules))
IsTooLargeAs rules other = ⊥

abbrev pub IsSizeFault : List RuleTree → ℕ → ExpandFault → Type 0
IsSizeFault rules at found = (why : Cause) × IsTooLargeAs rules why × (found ≡ fault.At why at)

-- a fault of a field or of a next value after these items: one by itself, or else that the rules up to its own are too many
abbrev pub IsRuleFault : List ItemTree → Frame → List (List ℕ) → List ItemTree → ItemTree → ExpandFault → Type 0
IsRuleFault model frame later passed item =
    OrElse (IsOwnFault model frame later item) (IsSizeFault (rules_made frame (passed ++ item ∷ [])) (name_place item))

-- The fault of the first of these items that has one, in the text's order.
pub record IsFirstRuleFault (frame : Frame) (later : List (List ℕ)) (items : List ItemTree) (found : ExpandFault) : Type 0 where
  pub passed : List ItemTree
  pub item : ItemTree
  pub behind : List ItemTree
  pub cut : items ≡ passed ++ item ∷ behind
  pub wrong : IsRuleFault items frame later passed item found
  pub fine : (ahead : List ItemTree) (other : ItemTree) (rest : List ItemTree) (e : ExpandFault) → passed ≡ ahead ++ other ∷ rest → IsRuleFault items frame later ahead other e → ⊥

-- Which fault a model is refused for, by its place in the text; and the program of a model without a fault.
use Rattle.std.specs.Prelude.{◌≡◌, ◌≢◌, ◌⊎◌, List, [], ◌∷◌, ◌++◌, Some, None}
use Rattle.rule_lang.specs.Tree.{ItemTree as RuleTree}
use Rattle.model_text.specs.Tree.{ItemTree}
use Rattle.model_rules.specs.declared.fault.ExpandFault.{ExpandFault}
use Rattle.model_rules.specs.declared.fault.ExpandFault.TheVariants as fault
use Rattle.model_rules.specs.Frames.{KnownTree}
use Rattle.model_rules.specs.Models.{GivenTree}
use Rattle.model_rules.specs.Naming.{naming_fault}
use Rattle.model_rules.specs.Definitions.{names_defined, frame_in}
use Rattle.model_rules.specs.Faults.{rules_made}
use Rattle.model_rules.specs.Faulty.{OrElse, IsRuleFault, IsFirstRuleFault}
use Rattle.model_rules.specs.Courses.{IsDefiningFault, AreDefined}

-- a fault of the names of a model, where the caller sets these constants
abbrev pub IsNamingFault : List ItemTree → List GivenTree → ExpandFault → Type 0
IsNamingFault items values found = naming_fault items values ≡ Some found

-- the first fault of its fields and next values, where all constants, states and lets are known
abbrev pub IsItemsFault : List ItemTree → List GivenTree → ExpandFault → Type 0
IsItemsFault items values found =
    (lets : List KnownTree) × AreDefined items values lets × IsFirstRuleFault (frame_in items lets []) (names_defined items) items found

-- The fault that a model is refused for, where the caller sets these constants: one of its names, or else one of its constants, states and
-- lets, or else the first of its fields and next values.
abbrev pub IsRefusedFor : List ItemTree → List GivenTree → ExpandFault → Type 0
IsRefusedFor items values = OrElse (IsNamingFault items values) (OrElse (IsDefiningFault items values) (IsItemsFault items values))

-- unless memory is out, the model is refused for this fault
abbrev pub IsFirstRefusal : List ItemTree → List GivenTree → ExpandFault → Type 0
IsFirstRefusal items values end = end ≢ fault.Memory → IsRefusedFor items values end

-- A model without a fault: its names are in order, all constants, states and lets become known, and no field and no next value has one.
pub record IsSound (items : List ItemTree) (values : List GivenTree) : Type 0 where
  pub named : naming_fault items values ≡ None
  pub lets : List KnownTree
  pub defined : AreDefined items values lets
  pub right : (passed : List ItemTree) (item : ItemTree) (behind : List ItemTree) (e : ExpandFault) → items ≡ passed ++ item ∷ behind
      → IsRuleFault items (frame_in items lets []) (names_defined items) passed item e → ⊥

-- The program of a model of which the caller sets these constants: for each field and each next value its rule, in the model's order,
-- where all constants, states and lets are known.
pub record IsProgramMade (items : List ItemTree) (values : List GivenTree) (rules : List RuleTree) : Type 0 where
  pub lets : List KnownTree
  pub defined : AreDefined items values lets
  pub made : rules ≡ rules_made (frame_in items lets []) items

-- ---- laws

-- a model is refused for one fault at most
abbrev pub OneRefusal : Type 0
OneRefusal =
    (items : List ItemTree) (values : List GivenTree) (one other : ExpandFault) → IsRefusedFor items values one → IsRefusedFor items values other → one ≡ other

-- and has one program at most
abbrev pub OneProgramMade : Type 0
OneProgramMade =
    (items : List ItemTree) (values : List GivenTree) (one other : List RuleTree) → IsProgramMade items values one → IsProgramMade items values other → one ≡ other

-- it has no fault, or is refused, but not both
abbrev pub OneVerdict : Type 0
OneVerdict =
    (items : List ItemTree) (values : List GivenTree)
    → (IsSound items values ⊎ ((found : ExpandFault) × IsRefusedFor items values found))
    × (IsSound items values → (found : ExpandFault) → IsRefusedFor items values found → ⊥)

-- The text of a program that the text of a model is expanded to, and why there is none.
use Rattle.std.specs.Prelude.{ℕ, List, length, map, true, None, ◌≡◌, ◌≤◌}
use Rattle.rule_lang.specs.Tree.{ItemTree as RuleTree}
use Rattle.rule_lang.specs.Program.{HasProgram}
use Rattle.rule_check.specs.declared.state.State.{State}
use Rattle.rule_check.specs.declared.state.Near.{Near}
use Rattle.rule_check.specs.Value.{Here, next_state, names_of}
use Rattle.rule_check.specs.Items.{rules_of as program_of}
use Rattle.model_text.specs.Tree.{ItemTree}
use Rattle.model_text.specs.Models.{HasModel, IsRefusedAs as IsNoModelAs}
use Rattle.model_rules.specs.declared.fault.ExpandFault.{ExpandFault}
use Rattle.model_rules.specs.declared.fault.ExpandFault.TheVariants as expand
use Rattle.model_rules.specs.Bounds.{IsAccepted}
use Rattle.model_rules.specs.Models.{GivenTree, draws_of, fields_of, in_states, initials_of, model_next, setting, worths_by}
use Rattle.model_rules.specs.ModelRefusals.{IsProgramMade, IsRefusedFor, IsSound}
use Rattle.model_rules.specs.Naming.{naming_fault}
use Rattle.model_rules.specs.declared.program_fault.ModelProgramFault.{ModelProgramFault}
use Rattle.model_rules.specs.declared.program_fault.ModelProgramFault.TheVariants.{Text, Expansion, UnknownGiven, Memory}
use Rattle.model_rules.specs.Lines.{lines_of}
use Rattle.model_rules.specs.Written.{text_made}

-- the initial values of a program's fields, in order
abbrev pub openings_of : List RuleTree → List ℕ
openings_of rules = map (λ f. f.opening) (program_of rules).fields

-- The program is the model's, where the caller sets these constants. It has the model's fields. From some depth on at which names
-- are looked up, the next state of each node is the model's, whatever the round, the number, the state and the neighbours are; and
-- the initial values are the model's, at whatever node its expressions are valued, and states where their fields have some. The
-- model's names are in order, and the program is accepted.
pub record IsProgramOf (items : List ItemTree) (given : List GivenTree) (rules : List RuleTree) : Type 0 where
  pub fields : names_of (program_of rules) ≡ fields_of items
  pub next : (k : ℕ) × ((n : ℕ) → k ≤ n → (round id : ℕ) (own : State) (nears : List Near)
      → next_state (program_of rules) round id own nears ≡ model_next items (worths_by items (setting items given) n) round id own nears)
  pub initial : (k : ℕ) × ((n : ℕ) → k ≤ n → (here : Here) → here.names ≡ fields_of items
      → openings_of rules ≡ initials_of items (draws_of items) (worths_by items (setting items given) n) here)
  pub states : in_states items items (openings_of rules) ≡ true
  pub named : naming_fault items given ≡ None
  pub accepted : IsAccepted rules

-- The text is that of a model that is refused for this fault.
pub record HasFault (text : List ℕ) (given : List GivenTree) (found : ExpandFault) : Type 0 where
  pub items : List ItemTree
  pub model : HasModel text items
  pub refused : IsRefusedFor items given found

-- The text is that of a model without a fault, and the bytes are the text of the program that it is expanded to: with the lines of the
-- model in comments where it then has 65,536 bytes at most. They have that program, which is the model's, and can be read: they are not
-- too many.
pub record IsExpanded (text : List ℕ) (given : List GivenTree) (bytes : List ℕ) : Type 0 where
  pub items : List ItemTree
  pub rules : List RuleTree
  pub model : HasModel text items
  pub faultless : IsSound items given
  pub made : IsProgramMade items given rules
  pub written : bytes ≡ text_made (lines_of text items) rules
  pub program : HasProgram bytes rules
  pub same : IsProgramOf items given rules
  pub fits : length bytes ≤ 65536

-- Why a text has no program, where the caller sets these constants: it is no model, for this reason; or it is one, and this is its
-- first fault. Running out of memory can come in place of each but a text that is too long.
abbrev pub IsRefusedAs : List ℕ → List GivenTree → ModelProgramFault → Type 0
IsRefusedAs text given (Text fault) = IsNoModelAs text fault
IsRefusedAs text given (Expansion cause at) = HasFault text given (expand.At cause at)
IsRefusedAs text given (UnknownGiven place) = HasFault text given (expand.UnknownGiven place)
IsRefusedAs text given Memory = length text ≤ 65536

-- Why a text of a model has no program, where the model is refused.
use Rattle.std.proofs.Common.{◌≤◌, ℕ, List, length}
use Rattle.std.specs.Prelude.{◌≢◌}
use Rattle.model_text.specs.Tree.{ItemTree}
use Rattle.model_text.specs.Models.{HasModel}
use Rattle.model_rules.specs.declared.fault.ExpandFault.{ExpandFault}
use Rattle.model_rules.specs.declared.fault.ExpandFault.TheVariants as expand
use Rattle.model_rules.specs.declared.fault.Cause.{Cause}
use Rattle.model_rules.specs.Models.{GivenTree}
use Rattle.model_rules.specs.ModelRefusals.{IsFirstRefusal}
use Rattle.model_rules.specs.ProgramFaults.{expansion_fault}
use Rattle.model_rules.specs.ProgramTexts.{IsRefusedAs}

-- no fault of a model is that memory is out
cause_not : (c : Cause) (at : ℕ) → expand.At c at ≢ expand.Memory
cause_not c at e = absurd (cc)

given_not : (place : ℕ) → expand.UnknownGiven place ≢ expand.Memory
given_not place e = absurd (cc)

pub refused_as : (text : List ℕ) (given : List GivenTree) (items : List ItemTree) (e : ExpandFault) → length text ≤ 65536 → HasModel text items → IsFirstRefusal items given e → IsRefusedAs text given (expansion_fault e)
refused_as text given items (expand.At c at) l m h = record { items = items; model = m; refused = h (cause_not c at) }
refused_as text given items (expand.UnknownGiven place) l m h = record { items = items; model = m; refused = h (given_not place) }
refused_as text given items expand.Memory l m h = l

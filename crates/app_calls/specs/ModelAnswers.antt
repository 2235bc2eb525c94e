-- What the call writes that expands a model, and why it writes nothing: the first fault on the way. Memory may run out anywhere.
use Rattle.std.specs.Prelude.{ℕ, ◌≡◌, ◌≤◌, ◌<◌, List, length}
use Rattle.model_text.specs.declared.fault.ModelFault.TheVariants as fault
use Rattle.model_rules.specs.declared.program_fault.ModelProgramFault.{ModelProgramFault}
use Rattle.model_rules.specs.declared.program_fault.ModelProgramFault.TheVariants.{Text, Memory}
use Rattle.model_rules.specs.Models.{GivenTree}
use Rattle.model_rules.specs.ProgramTexts.{IsExpanded, IsRefusedAs}
use Rattle.app_calls.specs.declared.models.fault.ModelCallFault.{ModelCallFault}
use Rattle.app_calls.specs.declared.models.fault.ModelCallFault.TheVariants.{Model, Constants, Room}
use Rattle.app_calls.specs.Constants.{AreConstants, AreNoConstants, AreSound}
use Rattle.app_calls.specs.Words.{with_front}

-- the model is not too long, and is expanded to this text of a program where names and values set its constants
pub record HasExpansion (model names values program : List ℕ) : Type 0 where
  pub short : length model ≤ 65536
  pub given : List GivenTree
  pub constants : AreConstants names values given
  pub expanded : IsExpanded model given program

-- such a text stands in front, and has so many bytes
pub record IsExpansion (model names values old new : List ℕ) (len : ℕ) : Type 0 where
  pub program : List ℕ
  pub expansion : HasExpansion model names values program
  pub text : new ≡ with_front program old
  pub bytes : len ≡ length program

-- why a model has no program: its text is too long, whatever the names and values are; or else it is refused for this where they set its
-- constants, or memory ran out, where nothing is wrong with them
abbrev pub IsRefusedModel : List ℕ → List ℕ → List ℕ → ModelProgramFault → Type 0
IsRefusedModel model names values (Text fault.TooLong) = 65536 < length model
IsRefusedModel model names values Memory = (length model ≤ 65536) × AreSound names (length values)
IsRefusedModel model names values f = (given : List GivenTree) × AreConstants names values given × IsRefusedAs model given f

-- the model is too long; or else names and values set no constants; or else the model is refused where they do
abbrev pub IsNoExpansion : List ℕ → List ℕ → List ℕ → ModelCallFault → Type 0
IsNoExpansion model names values (Model f) = IsRefusedModel model names values f
IsNoExpansion model names values (Constants f) = (length model ≤ 65536) × AreNoConstants names (length values) f
IsNoExpansion model names values Room = ⊥

-- the same, or the text of the program is longer than the room, and has so many bytes
abbrev pub IsUnexpanded : List ℕ → List ℕ → List ℕ → ℕ → ℕ → ModelCallFault → Type 0
IsUnexpanded model names values room len Room = (program : List ℕ) × HasExpansion model names values program × (room < length program) × (len ≡ length program)
IsUnexpanded model names values room len f = IsNoExpansion model names values f

-- a model that is too long is told as that, whatever memory and room there are
abbrev pub IsLongModel : List ℕ → ModelCallFault → Type 0
IsLongModel model f = 65536 < length model → f ≡ Model (Text fault.TooLong)

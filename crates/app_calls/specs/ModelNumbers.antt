-- The numbers of the faults of models, and of the constants that a caller sets. Out of memory and too little room have those of the other calls.
use Rattle.std.specs.Prelude.{ℕ, ◌≡◌}
use Rattle.model_text.specs.declared.fault.ModelFault.{ModelFault}
use Rattle.model_text.specs.declared.fault.ModelFault.TheVariants as text
use Rattle.model_rules.specs.declared.fault.Cause.{Cause}
use Rattle.model_rules.specs.declared.fault.Cause.TheVariants as cause
use Rattle.model_rules.specs.declared.program_fault.ModelProgramFault.{ModelProgramFault}
use Rattle.model_rules.specs.declared.program_fault.ModelProgramFault.TheVariants as model
use Rattle.app_calls.specs.declared.models.fault.ConstantsFault.{ConstantsFault}
use Rattle.app_calls.specs.declared.models.fault.ConstantsFault.TheVariants as constants
use Rattle.app_calls.specs.declared.models.fault.ModelCallFault.{ModelCallFault}
use Rattle.app_calls.specs.declared.models.fault.ModelCallFault.TheVariants as fault

-- of a text that is no model
abbrev pub text_number : ModelFault → ℕ
text_number text.Memory = 1
text_number text.TooLong = 160
text_number (text.Lex at) = 161
text_number (text.Syntax at expected) = 162

-- of what is wrong with a model; its program has the number of its text where it is too long
abbrev pub cause_number : Cause → ℕ
cause_number cause.TooManyFields = 163
cause_number cause.TooManyStates = 164
cause_number cause.NameTwice = 165
cause_number cause.NextTwice = 166
cause_number cause.NoField = 167
cause_number cause.UnknownStates = 168
cause_number cause.UnknownName = 170
cause_number cause.UnknownNear = 171
cause_number cause.WrongCount = 172
cause_number cause.WrongArguments = 173
cause_number cause.NeighbourOutside = 174
cause_number cause.NestedAggregate = 175
cause_number cause.NotSeen = 176
cause_number cause.Ring = 177
cause_number cause.NotConstant = 178
cause_number cause.OutOfRange = 179
cause_number cause.NoState = 180
cause_number cause.TooDeep = 181
cause_number cause.TooManyAggregates = 182
cause_number cause.TooLong = 160

-- of a model that has no program
abbrev pub refusal_number : ModelProgramFault → ℕ
refusal_number (model.Text f) = text_number f
refusal_number (model.Expansion what at) = cause_number what
refusal_number (model.UnknownGiven place) = 169
refusal_number model.Memory = 1

-- of names and values
abbrev pub constants_number : ConstantsFault → ℕ
constants_number constants.NotUtf8 = 192
constants_number constants.Unended = 193
constants_number constants.ValueCount = 194

-- of the call that expands a model
abbrev pub model_number_of : ModelCallFault → ℕ
model_number_of (fault.Model f) = refusal_number f
model_number_of (fault.Constants f) = constants_number f
model_number_of fault.Room = 2

-- a fault that is so has this number
pub record IsModelNumberOf (P : ModelCallFault → Type 0) (n : ℕ) : Type 0 where
  pub of : ModelCallFault
  pub number : n ≡ model_number_of of
  pub is : P of

-- Faults of texts and of expansions, as those of programs.
use Rattle.model_text.specs.declared.fault.ModelFault.{ModelFault}
use Rattle.model_text.specs.declared.fault.ModelFault.TheVariants as text
use Rattle.model_rules.specs.declared.fault.ExpandFault.{ExpandFault}
use Rattle.model_rules.specs.declared.fault.ExpandFault.TheVariants as expand
use Rattle.model_rules.specs.declared.program_fault.ModelProgramFault.{ModelProgramFault}
use Rattle.model_rules.specs.declared.program_fault.ModelProgramFault.TheVariants.{Text, Expansion, UnknownGiven, Memory}

-- why a text is no model, as why it has no program
abbrev pub text_fault : ModelFault → ModelProgramFault
text_fault text.TooLong = Text text.TooLong
text_fault (text.Lex at) = Text (text.Lex at)
text_fault (text.Syntax at expected) = Text (text.Syntax at expected)
text_fault text.Memory = Memory

-- why a model is not expanded, as why its text has no program
abbrev pub expansion_fault : ExpandFault → ModelProgramFault
expansion_fault (expand.At cause at) = Expansion cause at
expansion_fault (expand.UnknownGiven place) = UnknownGiven place
expansion_fault expand.Memory = Memory

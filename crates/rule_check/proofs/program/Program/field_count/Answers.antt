use Rattle.std.proofs.Common.{ap, sym, ◌∙◌, subst, All}
use Rattle.rule_check.specs.WellFormed.{first_fault, IsFieldName}
use Rattle.rule_check.specs.Value.{names_of}
use Rattle.rule_check.specs.Compiled.{decoded}
use Rattle.rule_check.proofs.Checked.{no_fault}
use Rattle.rule_check.proofs.program.Program.field_count.Goals as goal

pub returns-clause-well_formed : goal.returns-clause-well_formed
returns-clause-well_formed c = ap first_fault (sym c.self.view_is) ∙ no_fault (decoded c.self.inside) c.self.invariant.well

pub returns-clause-names : goal.returns-clause-names
returns-clause-names c = subst (λ v. All IsFieldName (names_of v)) c.self.view_is c.self.invariant.well.names

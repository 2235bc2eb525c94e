use Rattle.rule_lang.proofs.Once.{one_program}
use Rattle.rule_lang.proofs.source.one_program.Goals as goal

pub returns : goal.returns
returns c = record { one = one_program }

use Rattle.model_rules.proofs.KindsTold.{one_kind}
use Rattle.model_rules.proofs.RefusalsTold.{one_verdict, one_refusal, one_program}
use Rattle.model_rules.proofs.law.one_verdict_on_a_model.Goals as goal

pub returns : goal.returns
returns c = record { either = one_verdict; refusal = one_refusal; kind = one_kind; program = one_program }

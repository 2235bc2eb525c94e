use Rattle.run_steps.proofs.explain.Seeing.{reads_own_round}
use Rattle.run_steps.proofs.explain.Saying.{says_own_round}
use Rattle.run_steps.proofs.explain.laws.reads_own_round.Goals as goal

pub returns : goal.returns
returns c = record { reads = reads_own_round; says = says_own_round }

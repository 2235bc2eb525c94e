use Rattle.run_naive.proofs.Phases.{phases_keep_the_rounds}
use Rattle.run_naive.proofs.laws.phases_keep_the_rounds.Goals as goal

pub returns : goal.returns
returns c = record { kept = phases_keep_the_rounds }

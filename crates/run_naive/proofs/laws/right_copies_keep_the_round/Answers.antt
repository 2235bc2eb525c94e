use Rattle.run_naive.proofs.Copies.{right_copies}
use Rattle.run_naive.proofs.laws.right_copies_keep_the_round.Goals as goal

pub returns : goal.returns
returns c = record { kept = right_copies }

use Rattle.rounds_walk.proofs.Stays.{stays_as_it_is as law}
use Rattle.rounds_walk.proofs.laws.stays_as_it_is.Goals as goal

pub returns : goal.returns
returns c = record { still = law }

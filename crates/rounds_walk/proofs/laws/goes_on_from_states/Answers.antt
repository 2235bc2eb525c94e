use Rattle.rounds_walk.proofs.GoesOn.{goes_on}
use Rattle.rounds_walk.proofs.laws.goes_on_from_states.Goals as goal

pub returns : goal.returns
returns c = record { law = goes_on }

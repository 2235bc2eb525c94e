use Rattle.unison_world.proofs.Steps.{stays_in_step as law}
use Rattle.unison_world.proofs.laws.stays_in_step.Goals as goal

pub returns : goal.returns
returns c = record { in_step = law }

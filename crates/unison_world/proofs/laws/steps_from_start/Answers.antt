use Rattle.unison_world.proofs.Totals.{steps_from_start as law}
use Rattle.unison_world.proofs.laws.steps_from_start.Goals as goal

pub returns : goal.returns
returns c = record { total = law }

use Rattle.unison_world.proofs.Sweepings.{sweeps_rise as law}
use Rattle.unison_world.proofs.laws.sweeps_rise.Goals as goal

pub returns : goal.returns
returns c = record { rise = law }

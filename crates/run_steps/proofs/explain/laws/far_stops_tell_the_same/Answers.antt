use Rattle.run_steps.proofs.explain.Stopping.{far_stops_tell_the_same}
use Rattle.run_steps.proofs.explain.laws.far_stops_tell_the_same.Goals as goal

pub returns : goal.returns
returns c = record { same = far_stops_tell_the_same }

use Rattle.run_counts.proofs.Deviations.{deviations_are_nearest}
use Rattle.run_counts.proofs.laws.means_are_nearest.Goals as goal

pub returns-clause-deviations : goal.returns-clause-deviations
returns-clause-deviations c = deviations_are_nearest

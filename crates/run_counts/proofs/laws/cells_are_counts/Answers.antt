use Rattle.run_counts.proofs.Cells.{cells_are_counts}
use Rattle.run_counts.proofs.laws.cells_are_counts.Goals as goal

pub returns : goal.returns
returns c = record { cells = cells_are_counts }

use Rattle.unison_world.proofs.Progressing.{counts_changes as law}
use Rattle.unison_world.proofs.laws.counts_changes.Goals as goal

pub returns : goal.returns
returns c = record { counted = law }

use Rattle.rounds_blocks.proofs.Resting.{rests}
use Rattle.rounds_blocks.proofs.laws.rests_where_nothing_moved.Goals as goal

pub returns : goal.returns
returns c = record { rests = rests }

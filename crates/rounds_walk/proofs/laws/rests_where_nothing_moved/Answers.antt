use Rattle.rounds_walk.proofs.Stays.{rests_where_nothing_moved as law}
use Rattle.rounds_walk.proofs.laws.rests_where_nothing_moved.Goals as goal

pub returns : goal.returns
returns c = record { rests = law }

use Rattle.rounds_walk.proofs.part_rounds.Whole.{parts_make_the_round}
use Rattle.rounds_walk.proofs.part_rounds.laws.parts_make_the_round.Goals as goal

pub returns : goal.returns
returns c = record { law = parts_make_the_round c.order_of_neighbours.ensures.order }

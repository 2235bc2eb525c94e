use Rattle.rule_cuts.proofs.InOrder.{stand_in_order}
use Rattle.rule_cuts.proofs.places.operations_stand_in_order.Goals as goal

pub returns : goal.returns
returns c = record { order = stand_in_order }

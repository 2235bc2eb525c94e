use Rattle.rule_check.proofs.Order.{next_state-permuted}
use Rattle.rule_check.proofs.law.order_of_neighbours.Goals as goal

pub returns : goal.returns
returns c = record { order = next_state-permuted }

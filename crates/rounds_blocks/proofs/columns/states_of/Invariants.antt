use Rattle.std.proofs.Common.{◌≡◌, map}
use Rattle.link_net.specs.Neighbours.{numbers_below}
use Rattle.rounds_code.specs.Block.{state_at}
use Rattle.rounds_blocks.proofs.columns.states_of.Given as goal

abbrev pub invariant-loop-node : goal.invariant-loop-node
invariant-loop-node l = l.states.items ≡ map (state_at l.columns) (numbers_below l.node)

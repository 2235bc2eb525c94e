use Rattle.std.proofs.Common.{◌≡◌, map}
use Rattle.link_net.specs.Neighbours.{numbers_below}
use Rattle.headline.specs.Showing.{shown_in}
use Rattle.headline.proofs.steps.nodes_of.Given as goal

abbrev pub invariant-loop-node : goal.invariant-loop-node
invariant-loop-node l = l.nodes.items ≡ map (shown_in l.world) (numbers_below l.node)

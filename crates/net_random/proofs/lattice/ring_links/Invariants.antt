use Rattle.std.proofs.Common.{◌≡◌, flat_map}
use Rattle.link_net.specs.Neighbours.{numbers_below}
use Rattle.net_random.specs.RandomNetworks.{following}
use Rattle.net_random.proofs.lattice.ring_links.Given as goal

abbrev pub invariant-loop-node : goal.invariant-loop-node
invariant-loop-node l = l.links.items ≡ flat_map (following l.nodes l.near) (numbers_below l.node)

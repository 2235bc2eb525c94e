use Rattle.std.proofs.Common.{◌≡◌, ◌++◌, map}
use Rattle.link_net.specs.Neighbours.{numbers_below}
use Rattle.net_random.specs.RandomNetworks.{ring_link}
use Rattle.net_random.proofs.lattice.put_following.Given as goal

abbrev pub invariant-loop-step : goal.invariant-loop-step
invariant-loop-step l = l.links.items ≡ l.fn.links.items ++ map (ring_link l.nodes l.node) (numbers_below l.step)

use Rattle.std.proofs.Common.{◌≡◌}
use Rattle.link_net.specs.Neighbours.{numbers_below}
use Rattle.net_initial.specs.Ahead.{links_from}
use Rattle.net_initial.proofs.network_links.links_of.Given as goal

abbrev pub invariant-loop-node : goal.invariant-loop-node
invariant-loop-node l = l.links.items ≡ links_from l.network (numbers_below l.node)

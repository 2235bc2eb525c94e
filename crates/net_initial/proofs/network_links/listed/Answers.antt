use Rattle.net_initial.proofs.Ordering.{in_order}
use Rattle.net_initial.proofs.Relisted.{is_listing, network_is}
use Rattle.net_initial.proofs.network_links.listed.Goals as goal

pub sound-requires : goal.sound-requires
sound-requires c = rw (c.nodes.ensures.count, c.in_ok-links.ensures) (is_listing c.args.network.now c.nodes.ensures.whole)

pub returns-clause-network : goal.returns-clause-network
returns-clause-network c = rw (c.sound.ensures.listing, c.nodes.ensures.count, c.in_ok-links.ensures) (network_is c.args.network.now c.nodes.ensures.whole)

pub returns-clause-order : goal.returns-clause-order
returns-clause-order c = rw (c.sound.ensures.listing, c.in_ok-links.ensures) (in_order c.args.network.now c.nodes.ensures.whole)

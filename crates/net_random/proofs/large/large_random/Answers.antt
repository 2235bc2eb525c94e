use Rattle.std.proofs.Common.{arith}
use Rattle.net_random.proofs.Fits.{fit}
use Rattle.net_random.proofs.large.large_random.Goals as goal

pub weighted_network-requires-clause-some : goal.weighted_network-requires-clause-some
weighted_network-requires-clause-some c = rw c.node_count.ensures (fit c.args.wanted.now c.in_ok-links.ensures.fits).some

pub weighted_network-requires-clause-few : goal.weighted_network-requires-clause-few
weighted_network-requires-clause-few c =
    let few = (fit c.args.wanted.now c.in_ok-links.ensures.fits).few in
    let count = c.in_ok-links.ensures.links.count in
    omega (arith, few, count)

pub weighted_network-requires-clause-simple : goal.weighted_network-requires-clause-simple
weighted_network-requires-clause-simple c = rw c.node_count.ensures c.in_ok-links.ensures.links.simple

pub returns-clause-drawn : goal.returns-clause-drawn
returns-clause-drawn c = record {
  links = c.in_ok-links.links.items;
  outcome = c.in_ok-links.ensures.links;
  weighted = rw c.node_count.ensures at c.in_ok-network.ensures.weighted;
}

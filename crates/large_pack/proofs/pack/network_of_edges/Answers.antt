use Rattle.large_pack.proofs.Packs.{arcs_within}
use Rattle.large_pack.proofs.pack.network_of_edges.Goals as goal

pub network_of_arcs-requires-clause-within : goal.network_of_arcs-requires-clause-within
network_of_arcs-requires-clause-within c = rw c.in_ok-arcs.ensures (arcs_within c.args.nodes c.args.is_directed c.args.edges.items c.requires.within)

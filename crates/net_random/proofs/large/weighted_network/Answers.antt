use Rattle.std.proofs.Common.{arith}
use Rattle.net_random.proofs.Directions.{arcs_count, arcs_within}
use Rattle.net_random.proofs.Exact.{network_is}
use Rattle.net_random.proofs.SameEnds.{simple_apart, weighted_apart, weighted_length}
use Rattle.net_random.proofs.large.weighted_network.Goals as goal

pub network_of_arcs-requires-clause-within : goal.network_of_arcs-requires-clause-within
network_of_arcs-requires-clause-within c =
    let a = c.args in
    let drawn = c.in_ok-drawn.drawn.items in
    let apart = weighted_apart a.nodes a.weights a.links.items drawn c.in_ok-drawn.ensures.weights (simple_apart a.nodes a.links.items c.requires.simple) in
    rw (c.in_ok-arcs.ensures, c.deref.ensures.value) (arcs_within a.nodes drawn apart.within)

pub network_of_arcs-requires-clause-few : goal.network_of_arcs-requires-clause-few
network_of_arcs-requires-clause-few c =
    let a = c.args in
    let drawn = c.in_ok-drawn.drawn.items in
    let count = weighted_length a.weights a.links.items drawn c.in_ok-drawn.ensures.weights in
    let both = arcs_count drawn in
    let few = c.requires.few in
    rw (c.in_ok-arcs.ensures, c.deref.ensures.value) (omega arith)

pub returns : goal.returns
returns c =
    let a = c.args in
    let drawn = c.in_ok-drawn.drawn.items in
    let apart = weighted_apart a.nodes a.weights a.links.items drawn c.in_ok-drawn.ensures.weights (simple_apart a.nodes a.links.items c.requires.simple) in
    record {
      weighted = record {
        drawn = drawn;
        weighted = c.in_ok-drawn.ensures.weights;
        rows = network_is a.nodes drawn apart c.in_ok-network.network (rw (c.in_ok-arcs.ensures, c.deref.ensures.value) at c.in_ok-network.ensures.rows);
      };
    }

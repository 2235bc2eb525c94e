use Rattle.std.proofs.Common.{arith}
use Rattle.std.proofs.lemmas.Result.{IfOk-weaker}
use Rattle.net_random.proofs.Directions.{arcs_count, arcs_within}
use Rattle.net_random.proofs.Exact.{network_is}
use Rattle.net_random.proofs.SameEnds.{simple_apart}
use Rattle.net_random.proofs.large.linked.Goals as goal

pub network_of_arcs-requires-clause-within : goal.network_of_arcs-requires-clause-within
network_of_arcs-requires-clause-within c =
    rw (c.in_ok-arcs.ensures)
    (arcs_within c.args.nodes c.args.links.now c.requires.simple.within)

pub network_of_arcs-requires-clause-few : goal.network_of_arcs-requires-clause-few
network_of_arcs-requires-clause-few c =
    let few = c.requires.few in
    let both = arcs_count c.args.links.now in
    rw (c.in_ok-arcs.ensures) (omega arith)

pub returns : goal.returns
returns c =
    let links = c.args.links.now in
    record {
      rows = IfOk-weaker c.network_of_arcs.result _ _ (λ network has.
          network_is c.args.nodes links (simple_apart c.args.nodes links c.requires.simple) network (rw (c.in_ok-arcs.ensures) at has)) c.network_of_arcs.ensures.rows;
    }

use Rattle.std.proofs.Common.{◌+◌, take, drop}
use Rattle.std.proofs.lemmas.Result.{err_from_is_err_and}
use Rattle.import_links.specs.Refusals.{IsFirstBadEdge}
use Rattle.import_links.proofs.JoinSteps.{parted, names_next, rest_next, links_next, all_linked}
use Rattle.import_links.proofs.Refused.{refused_edge}
use Rattle.import_links.proofs.ends.join.Goals as goal

pub returns-in_err-link-clause-refused : goal.returns-in_err-link-clause-refused
returns-in_err-link-clause-refused c =
    let edges = c.args.edges.now in
    let i = c.loop-edge.edge-index in
    let p = err_from_is_err_and c.from_residual-in_err-link.result c.from_residual-in_err-link.ensures.1 in
    let bad : IsFirstBadEdge c.args.most c.args.names edges c.in_err-link.field-0.0 = record {
      earlier = take i edges;
      here = c.edge-item.result;
      later = drop (i + 1) edges;
      all = parted edges i c.edge-item.result c.loop-edge-test.true c.edge-item.is;
      are_names = rw c.loop-edge.invariant.names at c.loop-edge.invariant.are;
      why = rw c.loop-edge.invariant.names at c.in_err-link.ensures.refused;
    } in
    rw (p.1, p.2) (refused_edge c.args.most c.args.names edges c.in_err-link.field-0.0 bad)

pub loop-edge-preserved : goal.loop-edge-preserved
loop-edge-preserved c =
    let edges = c.args.edges.now in
    let i = c.loop-edge.edge-index in
    let e = c.edge-item.result in
    let low = c.loop-edge-test.true in
    let at = c.edge-item.is in
    let names = c.loop-edge.names in
    let new = c.link.new.names in
    let is = c.in_ok-link.ensures.names in
    record {
      names = names_next edges i e low at c.args.names names new c.loop-edge.invariant.names is;
      rest = rest_next edges i e low at names new _ c.loop-edge.invariant.rest is;
      links = links_next edges i e low at names new c.loop-edge.links.items c.push.new.self.items _ c.in_ok-link.link c.loop-edge.invariant.links is c.in_ok-link.ensures.link c.in_ok-push.ensures.items;
      are = c.in_ok-link.ensures.are_names;
      few = λ given. c.in_ok-link.ensures.few (c.loop-edge.invariant.few given);
    }

pub returns-clause-links : goal.returns-clause-links
returns-clause-links c = all_linked c.args.names c.loop-edge.names c.args.edges.now c.loop-edge.edge-index c.loop-edge.links.items c.loop-edge-test.false c.loop-edge.invariant.links

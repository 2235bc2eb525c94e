use Rattle.std.proofs.Common.{sym}
use Rattle.import_network.proofs.Numbering.{edge_placed}
use Rattle.import_network.proofs.packed_names.ends.number_edge.Goals as goal

pub returns-clause-edge : goal.returns-clause-edge
returns-clause-edge c =
    rw (c.edge_between.ensures, c.in_ok-first.ensures.number, c.in_ok-second.ensures.number, c.in_ok-first.ensures.names, c.first.ensures.name, c.second.ensures.name)
    (sym (edge_placed c.args.reverse c.args.names.now c.args.edge.now))

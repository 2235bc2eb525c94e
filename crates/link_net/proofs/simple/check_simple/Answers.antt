use Rattle.std.proofs.Common.{sym}
use Rattle.link_net.proofs.Simples.{is_simple}
use Rattle.link_net.proofs.simple.check_simple.Goals as goal

pub returns-clause-simple : goal.returns-clause-simple
returns-clause-simple c = is_simple c.args.rows.now c.nodes-nodes.ensures.whole (sym c.in_default.ensures.exact) (sym c.in_default-one_way_place.ensures.exact)

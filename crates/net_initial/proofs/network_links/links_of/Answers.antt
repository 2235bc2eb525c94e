use Rattle.std.proofs.Common.{sym}
use Rattle.net_initial.proofs.Rows.{first_more}
use Rattle.net_initial.proofs.network_links.links_of.Goals as goal

pub loop-node-preserved : goal.loop-node-preserved
loop-node-preserved c = rw (c.in_ok-put_node.ensures, c.loop-node.invariant) (sym (first_more c.args.network.now c.loop-node.node))

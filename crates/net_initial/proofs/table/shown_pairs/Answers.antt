use Rattle.std.proofs.Common.{None, sym, get_or}
use Rattle.net_initial.proofs.Tables.{shown_more}
use Rattle.net_initial.proofs.table.shown_pairs.Goals as goal

pub loop-node-preserved : goal.loop-node-preserved
loop-node-preserved c = rw (c.in_ok-put_shown.ensures, c.loop-node.invariant) (sym (shown_more c.loop-node.node (λ u. get_or c.args.table.now u None)))

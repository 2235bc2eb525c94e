use Rattle.std.proofs.Common.{sym}
use Rattle.net_shapes.specs.Ahead.{ahead}
use Rattle.net_shapes.proofs.Ahead.{ahead_more}
use Rattle.net_shapes.proofs.maker.all_links.Goals as goal

pub loop-node-preserved : goal.loop-node-preserved
loop-node-preserved c = rw (c.in_ok-put_links.ensures, c.loop-node.invariant) (sym (ahead_more (ahead c.args.shape.now) c.loop-node.node))

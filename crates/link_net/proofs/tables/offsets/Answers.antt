use Rattle.link_net.proofs.Offsets.{firsts_more}
use Rattle.link_net.proofs.tables.offsets.Goals as goal

pub loop-node-preserved : goal.loop-node-preserved
loop-node-preserved c =
    rw c.in_ok-push.ensures.items
    (firsts_more c.args.arcs.now c.loop-node.offsets.items c.loop-node.node c.first_from.result c.loop-node.invariant.0 c.loop-node.invariant.1
    (record { bound = c.first_from.ensures.bound; before = c.first_from.ensures.before; after = c.first_from.ensures.after }))

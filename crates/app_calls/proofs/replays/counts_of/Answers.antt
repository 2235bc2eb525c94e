use Rattle.std.proofs.Common.{◌<◌, arith, length}
use Rattle.unison_world.specs.Counting.{moves_of}
use Rattle.app_calls.specs.Words.{counts_in}
use Rattle.app_calls.proofs.Shown.{count_more}
use Rattle.app_calls.proofs.replays.counts_of.Goals as goal

pub loop-node-preserved : goal.loop-node-preserved
loop-node-preserved c =
    let w = c.args.world.now in
    let inside : c.loop-node.node < length w.plan.network = omega (arith, c.nodes-node-end.ensures.count) in
    count_more (moves_of w.counts) c.loop-node.counts.items c.add_count.new.counts.items (counts_in w.plan w.counts) c.loop-node.node (length w.plan.network) inside c.in_ok-add_count.ensures.added c.loop-node.invariant

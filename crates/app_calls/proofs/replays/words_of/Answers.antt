use Rattle.std.proofs.Common.{◌<◌, arith, length}
use Rattle.app_calls.specs.Words.{shown_words, words_after}
use Rattle.app_calls.proofs.Shown.{words_more}
use Rattle.app_calls.proofs.replays.words_of.Goals as goal

pub loop-node-preserved : goal.loop-node-preserved
loop-node-preserved c =
    let w = c.args.world.now in
    let inside : c.loop-node.node < length w.plan.network = omega (arith, c.nodes-node-end.ensures.count) in
    words_more (shown_words w.plan w.counts) c.loop-node.words.items c.add_shown.new.words.items (words_after w.plan w.counts) c.loop-node.node (length w.plan.network) inside c.in_ok-add_shown.ensures.added c.loop-node.invariant

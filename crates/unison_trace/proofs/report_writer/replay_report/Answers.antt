use Rattle.std.proofs.Common.{arith, length, ◌<◌, string_bytes}
use Rattle.unison_trace.specs.Replays.{replay_line, replay_text}
use Rattle.unison_trace.proofs.ReplayLines.{line_more}
use Rattle.unison_trace.proofs.report_writer.replay_report.Goals as goal

pub loop-node-preserved : goal.loop-node-preserved
loop-node-preserved c =
    let w = c.args.world.now in
    let inside : c.loop-node.node < length w.plan.network = omega (arith, c.nodes-node-end.ensures.count) in
    line_more (replay_line w.plan w.counts) (string_bytes c.loop-node.out) (string_bytes c.put_node.new.out) (replay_text w.plan w.counts) c.loop-node.node (length w.plan.network) inside c.in_ok-put_node.ensures.line c.loop-node.invariant

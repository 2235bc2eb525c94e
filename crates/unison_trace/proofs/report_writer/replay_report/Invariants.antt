use Rattle.std.proofs.Common.{◌≡◌, ◌-◌, ◌++◌, length, string_bytes}
use Rattle.std.specs.List.{flat_map, range_with_len}
use Rattle.unison_trace.specs.Replays.{replay_line, replay_text}
use Rattle.unison_trace.proofs.report_writer.replay_report.Given as goal

abbrev pub invariant-loop-node : goal.invariant-loop-node
invariant-loop-node l =
    string_bytes l.out ++ flat_map (replay_line l.world.plan l.world.counts) (range_with_len l.node (length l.world.plan.network - l.node)) ≡ replay_text l.world.plan l.world.counts

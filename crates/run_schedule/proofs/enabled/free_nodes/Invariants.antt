use Rattle.std.proofs.Common.{◌≡◌}
use Rattle.std.specs.List.{filter, range_with_len}
use Rattle.run_schedule.specs.Daemons.{is_free}
use Rattle.run_schedule.proofs.enabled.free_nodes.Given as goal

abbrev pub invariant-loop-node : goal.invariant-loop-node
invariant-loop-node l = l.free.items ≡ filter (is_free l.walk.world l.but) (range_with_len 0 l.node)

use Rattle.std.proofs.Common.{◌≡◌, ◌++◌}
use Rattle.std.specs.List.{range_with_len}
use Rattle.net_shapes.proofs.large.put.put_range.Given as goal

abbrev pub invariant-loop-step : goal.invariant-loop-step
invariant-loop-step l = l.neighbours.items ≡ l.fn.neighbours.items ++ range_with_len l.first l.step

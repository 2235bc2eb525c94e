use Rattle.std.proofs.Common.{◌≡◌, ◌++◌, map}
use Rattle.std.specs.List.{range_with_len}
use Rattle.net_shapes.specs.Ahead.{link_to}
use Rattle.net_shapes.proofs.maker.put_range.Given as goal

abbrev pub invariant-loop-step : goal.invariant-loop-step
invariant-loop-step l = l.links.items ≡ l.fn.links.items ++ map (link_to l.node) (range_with_len l.first l.step)

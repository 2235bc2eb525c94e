use Rattle.std.proofs.Common.{◌≡◌, ◌++◌, map}
use Rattle.std.specs.List.{range_with_len}
use Rattle.net_shapes.specs.Ahead.{link_to, raised}
use Rattle.net_shapes.proofs.maker.put_hypercube.Given as goal

abbrev pub invariant-loop-digit : goal.invariant-loop-digit
invariant-loop-digit l = l.links.items ≡ l.fn.links.items ++ map (link_to l.node) (raised l.node (range_with_len 0 l.digit))

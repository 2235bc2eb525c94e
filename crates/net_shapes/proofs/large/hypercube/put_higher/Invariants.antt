use Rattle.std.proofs.Common.{◌≡◌, ◌++◌}
use Rattle.link_net.specs.Neighbours.{numbers_below}
use Rattle.net_shapes.specs.Ahead.{raised}
use Rattle.net_shapes.proofs.large.hypercube.put_higher.Given as goal

abbrev pub invariant-loop-digit : goal.invariant-loop-digit
invariant-loop-digit l = l.neighbours.items ≡ l.fn.neighbours.items ++ raised l.node (numbers_below l.digit)

use Rattle.std.proofs.Common.{◌≡◌, ◌++◌, ◌-◌}
use Rattle.link_net.specs.Neighbours.{numbers_below}
use Rattle.net_shapes.specs.Listed.{lowered}
use Rattle.net_shapes.proofs.large.hypercube.put_lower.Given as goal

abbrev pub invariant-loop-place : goal.invariant-loop-place
invariant-loop-place l = l.neighbours.items ++ lowered l.node (numbers_below (l.dimension - l.place)) ≡ l.fn.neighbours.items ++ lowered l.node (numbers_below l.dimension)

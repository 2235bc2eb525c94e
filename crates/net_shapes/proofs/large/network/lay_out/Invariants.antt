use Rattle.net_shapes.specs.LargeShapes.{shape_neighbours}
use Rattle.net_shapes.specs.Tables.{HoldBelow}
use Rattle.net_shapes.proofs.large.network.lay_out.Given as goal

abbrev pub invariant-loop-node : goal.invariant-loop-node
invariant-loop-node l = HoldBelow (shape_neighbours l.shape) l.node l.table.offsets.items l.table.neighbours.items

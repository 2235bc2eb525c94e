use Rattle.std.proofs.Common.{arith}
use Rattle.net_shapes.specs.LargeShapes.{shape_neighbours}
use Rattle.net_shapes.proofs.Tables.{hold_more}
use Rattle.net_shapes.proofs.large.network.Table.put_node.Goals as goal

pub returns : goal.returns
returns c =
    let rows = shape_neighbours c.args.shape.now in
    record { after = hold_more rows c.args.node c.len.result _ _ _ _ c.requires.before c.in_ok-put_neighbours.ensures (omega arith) c.in_ok-push.ensures.items }

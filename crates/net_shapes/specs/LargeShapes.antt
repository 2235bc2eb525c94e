-- Shapes of networks of any size.
use Rattle.std.specs.Prelude.{◌≡◌, ℕ, List}
use Rattle.link_net.specs.Neighbours.{Neighbours}
use Rattle.net_shapes.specs.declared.shape.Shape.{Shape}
use Rattle.net_shapes.specs.Shapes.{node_count, shape_joins}
use Rattle.net_shapes.specs.Rows.{joined_rows, joined_with}

-- the nodes that the shape joins with a node, by rising number
abbrev pub shape_neighbours : Shape → ℕ → List ℕ
shape_neighbours s = joined_with (shape_joins s) (node_count s)

-- the network has the shape's nodes, and in the row of each stand, by rising number, the nodes that the shape joins with it, once and with weight 1
abbrev pub HasShapeRows : Shape → Neighbours → Type 0
HasShapeRows s network = network ≡ joined_rows (shape_joins s) (node_count s)

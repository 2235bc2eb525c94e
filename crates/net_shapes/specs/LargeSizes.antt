-- Which shapes have a network.
use Rattle.std.specs.Prelude.{Bool, ◌&&◌, not, true, nat_le, Option, Some, None, if◌then◌else◌}
use Rattle.link_net.specs.Limits.{most_rows}
use Rattle.net_shapes.specs.Shapes.{node_count}
use Rattle.net_shapes.specs.declared.shape.Shape.{Shape}
use Rattle.net_shapes.specs.declared.large.fault.LargeShapeFault.{LargeShapeFault}
use Rattle.net_shapes.specs.declared.large.fault.LargeShapeFault.TheVariants.{TooFewNodes, TooManyNodes, Memory}

-- the shape has a node, and what closes to a ring has three; each side of a bipartite one has a node, and a tree an arity
abbrev pub has_enough : Shape → Bool
has_enough (Shape.Path n) = nat_le 1 n
has_enough (Shape.Ring n) = nat_le 3 n
has_enough (Shape.Star n) = nat_le 1 n
has_enough (Shape.Grid w h) = nat_le 1 w && nat_le 1 h
has_enough (Shape.DiagonalGrid w h x) = nat_le 1 w && nat_le 1 h
has_enough (Shape.Torus w h d) = nat_le 3 w && nat_le 3 h
has_enough (Shape.Complete n) = nat_le 1 n
has_enough (Shape.Bipartite l r) = nat_le 1 l && nat_le 1 r
has_enough (Shape.Tree n k) = nat_le 1 n && nat_le 1 k
has_enough (Shape.Hypercube d) = true

-- why a shape has no network
abbrev pub refusal_of : Shape → Option LargeShapeFault
refusal_of s =
    if not (has_enough s) then Some TooFewNodes
    else if not (nat_le (node_count s) most_rows) then Some TooManyNodes
    else None

-- the refusal that a fault tells: running out of memory refuses nothing
abbrev pub refused_by : LargeShapeFault → Option LargeShapeFault
refused_by Memory = None
refused_by fault = Some fault

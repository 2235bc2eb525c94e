-- Which shapes have a network.
use Rattle.std.specs.Prelude.{ℕ, ◌+◌, ◌-◌, ◌*◌, ◌/◌, ◌^◌, min, max, Bool, ◌&&◌, not, nat_lt, nat_le, Option, Some, None, if◌then◌else◌}
use Rattle.link_net.specs.Limits.{most_nodes, most_links, most_neighbours}
use Rattle.net_shapes.specs.declared.shape.Shape.{Shape}
use Rattle.net_shapes.specs.declared.fault.ShapeFault.{ShapeFault}
use Rattle.net_shapes.specs.declared.fault.ShapeFault.TheVariants.{NodeCount, TooManyLinks, TooManyNeighbours, Memory}

-- the number is from the least up to the most nodes of a network
abbrev pub is_from : ℕ → ℕ → Bool
is_from least n = nat_le least n && nat_le n most_nodes

-- the nodes, the sides and the arity are no fewer than the shape needs, and the nodes no more than a network may have
abbrev pub has_size : Shape → Bool
has_size (Shape.Path n) = is_from 1 n
has_size (Shape.Ring n) = is_from 3 n
has_size (Shape.Star n) = is_from 1 n
has_size (Shape.Grid w h) = (nat_le 1 w && nat_le 1 h) && nat_le (w * h) most_nodes
has_size (Shape.DiagonalGrid w h x) = (nat_le 1 w && nat_le 1 h) && nat_le (w * h) most_nodes
has_size (Shape.Torus w h d) = (nat_le 3 w && nat_le 3 h) && nat_le (w * h) most_nodes
has_size (Shape.Complete n) = is_from 1 n
has_size (Shape.Bipartite l r) = (nat_le 1 l && nat_le 1 r) && nat_le (l + r) most_nodes
has_size (Shape.Tree n k) = is_from 1 n && nat_le 1 k
has_size (Shape.Hypercube d) = nat_le d 16

-- the links of h rows of w nodes, and those of their columns
abbrev pub grid_links : ℕ → ℕ → ℕ
grid_links w h = (w - 1) * h + w * (h - 1)

-- the links of a grid, and two from each place where four nodes meet, or of hexagons one
abbrev pub diagonal_links : ℕ → ℕ → Bool → ℕ
diagonal_links w h hexagons = grid_links w h + (if hexagons then (w - 1) * (h - 1) else 2 * ((w - 1) * (h - 1)))

-- two links for each node, to the right and down, or four
abbrev pub torus_links : ℕ → ℕ → Bool → ℕ
torus_links w h d = if d then 4 * (w * h) else 2 * (w * h)

-- how many links a shape of such a size has
abbrev pub link_count : Shape → ℕ
link_count (Shape.Path n) = n - 1
link_count (Shape.Ring n) = n
link_count (Shape.Star n) = n - 1
link_count (Shape.Grid w h) = grid_links w h
link_count (Shape.DiagonalGrid w h x) = diagonal_links w h x
link_count (Shape.Torus w h d) = torus_links w h d
link_count (Shape.Complete n) = n * (n - 1) / 2
link_count (Shape.Bipartite l r) = l * r
link_count (Shape.Tree n k) = n - 1
link_count (Shape.Hypercube d) = d * 2 ^ d / 2

-- the neighbours of the root of a tree, its children, or those of node 1, its children and the root, whichever are more
abbrev pub tree_neighbours : ℕ → ℕ → ℕ
tree_neighbours n k = max (min k (n - 1)) (1 + min k (n - 1 - k))

-- how many neighbours a node of such a shape has at most
abbrev pub neighbour_count : Shape → ℕ
neighbour_count (Shape.Path n) = 2
neighbour_count (Shape.Ring n) = 2
neighbour_count (Shape.Star n) = n - 1
neighbour_count (Shape.Grid w h) = 4
neighbour_count (Shape.DiagonalGrid w h x) = if x then 6 else 8
neighbour_count (Shape.Torus w h d) = if d then 8 else 4
neighbour_count (Shape.Complete n) = n - 1
neighbour_count (Shape.Bipartite l r) = max l r
neighbour_count (Shape.Tree n k) = tree_neighbours n k
neighbour_count (Shape.Hypercube d) = d

-- why a shape has no network
abbrev pub refusal_of : Shape → Option ShapeFault
refusal_of s =
    if not (has_size s) then Some NodeCount
    else if nat_lt most_links (link_count s) then Some TooManyLinks
    else if nat_lt most_neighbours (neighbour_count s) then Some TooManyNeighbours
    else None

-- the refusal that a fault tells: running out of memory refuses nothing
abbrev pub refused_by : ShapeFault → Option ShapeFault
refused_by Memory = None
refused_by fault = Some fault

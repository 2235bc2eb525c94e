-- Shapes: which nodes they join.
use Rattle.std.specs.Prelude.{◌≡◌, ℕ, ◌+◌, ◌-◌, ◌*◌, ◌/◌, ◌%◌, ◌^◌, ◌<◌, ◌==◌, Bool, not, ◌&&◌, ◌||◌, nat_le, nat_lt, if◌then◌else◌}
use Rattle.std.specs.List.{AllByRecursion, list_any}
use Rattle.link_net.specs.Links.{are_linked}
use Rattle.link_net.specs.Neighbours.{numbers_below}
use Rattle.net_text.specs.Listing.{Listing, IsListing}
use Rattle.net_shapes.specs.declared.shape.Shape.{Shape}

-- how many nodes a shape has; they are numbered from 0
abbrev pub node_count : Shape → ℕ
node_count (Shape.Path n) = n
node_count (Shape.Ring n) = n
node_count (Shape.Star n) = n
node_count (Shape.Grid w h) = w * h
node_count (Shape.DiagonalGrid w h x) = w * h
node_count (Shape.Torus w h d) = w * h
node_count (Shape.Complete n) = n
node_count (Shape.Bipartite l r) = l + r
node_count (Shape.Tree n k) = n
node_count (Shape.Hypercube d) = 2 ^ d

-- the node after i on a ring of n: after the last comes the first
abbrev pub next : ℕ → ℕ → ℕ
next n i = if i + 1 == n then 0 else i + 1

-- in rows of w nodes, which follow one another: the row and the column of a node
abbrev pub row : ℕ → ℕ → ℕ
row w u = u / w

abbrev pub column : ℕ → ℕ → ℕ
column w u = u % w

-- the binary digit of u at place b, counted from 0 at the last digit
abbrev pub digit : ℕ → ℕ → ℕ
digit u b = (u / 2 ^ b) % 2

-- from this row down to the right, and down to the left: of hexagons from odd rows to the right and from even ones to the left
abbrev pub slants_right : Bool → ℕ → Bool
slants_right hexagons y = not hexagons || y % 2 == 1

abbrev pub slants_left : Bool → ℕ → Bool
slants_left hexagons y = not hexagons || y % 2 == 0

-- the shape has a link from u to w: each of its links once, from one of its two ends
abbrev pub leads : Shape → ℕ → ℕ → Bool
-- each node to the next
leads (Shape.Path n) u w = u + 1 == w
-- the same, and the last to the first
leads (Shape.Ring n) u w = next n u == w
-- each node but node 0 to node 0, the middle
leads (Shape.Star n) u w = nat_lt 0 u && w == 0
-- each node to the one at its right, and to the one below it
leads (Shape.Grid w h) u v = (row w u == row w v && column w u + 1 == column w v) || (column w u == column w v && row w u + 1 == row w v)
-- the same, and down to the right and to the left, of hexagons to one of them alone
leads (Shape.DiagonalGrid w h x) u v =
    (row w u == row w v && column w u + 1 == column w v)
    || (column w u == column w v && row w u + 1 == row w v)
    || (row w u + 1 == row w v && ((slants_right x (row w u) && column w u + 1 == column w v) || (slants_left x (row w u) && column w v + 1 == column w u)))
-- a grid where each row and each column is a ring; with diagonals also to the two nodes beside the one below
leads (Shape.Torus w h d) u v =
    (row w u == row w v && next w (column w u) == column w v)
    || (column w u == column w v && next h (row w u) == row w v)
    || (d && next h (row w u) == row w v && (next w (column w u) == column w v || next w (column w v) == column w u))
-- each node to all after it
leads (Shape.Complete n) u w = nat_lt u w
-- each of the first l nodes to each of the others
leads (Shape.Bipartite l r) u w = nat_lt u l && nat_le l w
-- each node but the root, node 0, to its parent
leads (Shape.Tree n k) u w = nat_lt 0 u && (u - 1) / k == w
-- each number to those that have 1 in place of one of its binary digits 0, and no other digit changed
leads (Shape.Hypercube d) u w = list_any (λ b. digit u b == 0 && u + 2 ^ b == w) (numbers_below d)

-- the shape joins u and w: it leads from one to the other
abbrev pub shape_joins : Shape → ℕ → ℕ → Bool
shape_joins s u w = leads s u w || leads s w u

-- the list has the shape's nodes, a link between two of them exactly where the shape joins them, and weight 1 at each link
pub record HasShape (s : Shape) (list : Listing) : Type 0 where
  pub nodes : list.nodes ≡ node_count s
  pub links : (u w : ℕ) → u < node_count s → w < node_count s → are_linked list.links u w ≡ shape_joins s u w
  pub weights : AllByRecursion (λ l. l.2 ≡ 1) list.links

-- no links within the bounds of a network have the shape
abbrev pub HasNone : Shape → Type 0
HasNone s = (list : Listing) → IsListing list → HasShape s list → ⊥

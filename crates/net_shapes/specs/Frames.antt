-- Internal: nodes in rows and columns, each of them a line or a ring. No public clause cites it.
use Rattle.std.specs.Prelude.{◌≡◌, ℕ, ◌+◌, ◌*◌, ◌%◌, ◌<◌, ◌≤◌, ◌==◌, Bool, true, false, ◌&&◌, ◌||◌, not, nat_lt, List, [], ◌∷◌, map, take, All, Option, Some, None, if◌then◌else◌}
use Rattle.std.specs.List.{AllByRecursion, filter, flat_map, list_any}
use Rattle.link_net.specs.Limits.{most_rows}
use Rattle.net_shapes.specs.Shapes.{next, row, column}
use Rattle.net_shapes.specs.declared.large.axis.Axis.{Axis}
use Rattle.net_shapes.specs.declared.large.near.Near.{Near}
use Rattle.net_shapes.specs.declared.large.frame.Frame.{Frame}
use Rattle.net_shapes.specs.declared.large.slant.Slant.{Slant}
use Rattle.net_shapes.specs.declared.large.spot.Spot.{Spot}
use Rattle.net_shapes.specs.declared.shape.Shape.{Shape}
use Rattle.net_shapes.specs.Rows.{joined_with}

-- k comes after i
abbrev pub is_after : Axis → ℕ → ℕ → Bool
is_after axis i k = if axis.closed then next axis.places i == k else i + 1 == k

-- one of the two comes after the other
abbrev pub are_beside : Axis → ℕ → ℕ → Bool
are_beside axis i k = is_after axis i k || is_after axis k i

-- the axis has places; on a ring there are three at least
pub record IsAxis (axis : Axis) : Type 0 where
  pub some : 1 ≤ axis.places
  pub ring : axis.closed ≡ true → 3 ≤ axis.places

-- each number is below those after it
abbrev pub Rises : List ℕ → Type 0
Rises [] = Unit {0}
Rises (x ∷ xs) = AllByRecursion (λ y. x < y) xs × Rises xs

-- the numbers that are filled in
abbrev pub near_places : Near → List ℕ
near_places near = take near.count near.places

-- a place and those beside it, by rising number
pub record AreNear (axis : Axis) (i : ℕ) (ks : List ℕ) : Type 0 where
  pub rising : Rises ks
  pub below : All (λ k. k < axis.places) ks
  pub all : (k : ℕ) → k < axis.places → list_any (λ z. k == z) ks ≡ (k == i || are_beside axis i k)

-- how many nodes a frame has
abbrev pub frame_nodes : Frame → ℕ
frame_nodes f = f.columns.places * f.rows.places

-- the rows and the columns have places, and the nodes are no more than a network may have
pub record IsFrame (f : Frame) : Type 0 where
  pub columns : IsAxis f.columns
  pub rows : IsAxis f.rows
  pub small : frame_nodes f ≤ most_rows

-- all nodes beside a node's corners are its neighbours, or none
abbrev pub slant_of : Bool → Slant
slant_of true = Slant.Diagonal
slant_of false = Slant.Straight

-- of a node at column x and row y one at column a is a neighbour, where that is beside it in a row beside
abbrev pub slants : Slant → ℕ → ℕ → ℕ → Bool
slants Slant.Straight y x a = false
slants Slant.Diagonal y x a = true
slants Slant.Hexagonal y x a = if y % 2 == 1 then nat_lt x a else nat_lt a x

-- a node at column x and row y is joined with one at column a and row b: beside it in its row, or in a row beside at its column, or beside its corner
abbrev pub spots_joined : Frame → ℕ → ℕ → ℕ → ℕ → Bool
spots_joined f x y a b =
    if b == y then are_beside f.columns x a
    else are_beside f.rows y b && (a == x || (slants f.slant y x a && are_beside f.columns x a))

-- a frame joins u and v
abbrev pub frame_joins : Frame → ℕ → ℕ → Bool
frame_joins f u v = spots_joined f (column f.columns.places u) (row f.columns.places u) (column f.columns.places v) (row f.columns.places v)

-- the neighbours of each node of a frame
abbrev pub frame_neighbours : Frame → ℕ → List ℕ
frame_neighbours f = joined_with (frame_joins f) (frame_nodes f)

-- the frame of a shape, where it is one of rows and columns: paths and rings are one row
abbrev pub frame_of : Shape → Option Frame
frame_of (Shape.Path n) = Some (record { columns = record { places = n; closed = false }; rows = record { places = 1; closed = false }; slant = Slant.Straight })
frame_of (Shape.Ring n) = Some (record { columns = record { places = n; closed = true }; rows = record { places = 1; closed = false }; slant = Slant.Straight })
frame_of (Shape.Grid w h) = Some (record { columns = record { places = w; closed = false }; rows = record { places = h; closed = false }; slant = Slant.Straight })
frame_of (Shape.DiagonalGrid w h x) = Some (record { columns = record { places = w; closed = false }; rows = record { places = h; closed = false }; slant = if x then Slant.Hexagonal else Slant.Diagonal })
frame_of (Shape.Torus w h d) = Some (record { columns = record { places = w; closed = true }; rows = record { places = h; closed = true }; slant = slant_of d })
frame_of s = None

-- of the places near a node's own: those of its neighbours
abbrev pub is_kept : Spot → ℕ → ℕ → Bool
is_kept s a b = if b == s.row then not (a == s.column) else (slants s.slant s.row s.column a || a == s.column)

-- the neighbours at these columns of a row
abbrev pub in_row : Spot → List ℕ → ℕ → List ℕ
in_row s columns b = map (λ a. b * s.width + a) (filter (λ a. is_kept s a b) columns)

-- the neighbours at these columns of these rows
abbrev pub around : Spot → List ℕ → List ℕ → List ℕ
around s columns rows = flat_map (in_row s columns) rows

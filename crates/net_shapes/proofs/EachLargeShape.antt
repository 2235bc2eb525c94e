-- Each shape of rows and columns joins what its frame joins.
use Rattle.std.proofs.Common.{◌≡◌, ◌∙◌, ℕ, ◌+◌, ◌*◌, ◌%◌, ◌<◌, ◌≤◌, ◌==◌, Bool, true, false, ◌&&◌, ◌||◌, nat_le, nat_lt, None, Some, refl, sym, ap, subst, arith, inl, inr, if◌then◌else◌}
use Rattle.std.proofs.Math.Nat.{mod-eq_of_lt}
use Rattle.std.specs.List.{filter}
use Rattle.std.proofs.lemmas.Bool.{cases_Bool, and_parts}
use Rattle.std.proofs.lemmas.Bool.Decides.{nat_tests}
use Rattle.std.proofs.lemmas.Nat.{div-mul-add}
use Rattle.std.proofs.lemmas.Option.{same_Some}
use Rattle.link_net.specs.Limits.{most_rows}
use Rattle.link_net.specs.Neighbours.{numbers_below}
use Rattle.net_shapes.specs.declared.shape.Shape.{Shape}
use Rattle.net_shapes.specs.declared.large.frame.Frame.{Frame}
use Rattle.net_shapes.specs.declared.large.slant.Slant.{Slant}
use Rattle.net_shapes.specs.Shapes.{next, row, column, node_count, shape_joins}
use Rattle.net_shapes.specs.Frames.{IsAxis, IsFrame, frame_nodes, frame_joins, frame_neighbours, frame_of, slant_of}
use Rattle.net_shapes.specs.LargeShapes.{shape_neighbours}
use Rattle.net_shapes.specs.LargeSizes.{has_enough, refusal_of}
use Rattle.net_shapes.proofs.FitsLarge.{fits_large}
use Rattle.net_shapes.proofs.LargePlaces.{row_below}
use Rattle.net_shapes.proofs.Tables.{filter_agrees}

-- the frames of shapes
abbrev row_frame : ℕ → Bool → Frame
row_frame n closed = record { columns = record { places = n; closed = closed }; rows = record { places = 1; closed = false }; slant = Slant.Straight }

abbrev grid_frame : ℕ → ℕ → Slant → Frame
grid_frame w h slant = record { columns = record { places = w; closed = false }; rows = record { places = h; closed = false }; slant = slant }

abbrev torus_frame : ℕ → ℕ → Bool → Frame
torus_frame w h d = record { columns = record { places = w; closed = true }; rows = record { places = h; closed = true }; slant = slant_of d }

-- nodes of one row
only_row : (n u : ℕ) → u < n → row n u ≡ 0
only_row n u low = let same : 0 * n + u ≡ u = omega arith in rw same at (div-mul-add 0 n u low)

only_column : (n u : ℕ) → u < n → column n u ≡ u
only_column n u low = mod-eq_of_lt low

-- the tests on plain numbers: nodes at x, y and at a, b; r is after x and s after a, p after y and q after b
joined_alike : (d : Bool) (x y a b r s p q : ℕ) → ((p == b) ≡ true → (b == y) ≡ false) → ((q == y) ≡ true → (b == y) ≡ false)
    → (((y == b && r == a) || (x == a && p == b) || (d && p == b && (r == a || s == x))) || ((b == y && s == x) || (a == x && q == y) || (d && q == y && (s == x || r == a))))
    ≡ (if b == y then (r == a || s == x) else ((p == b || q == y) && (a == x || (d && (r == a || s == x)))))
joined_alike d x y a b r s p q h k =
    elim (cases_Bool (b == y)) [
      | inl same ↦ grind (arith, nat_tests)
      | inr other ↦ grind (arith, nat_tests)
    ]

after_other : (n i k : ℕ) → 3 ≤ n → i < n → k < n → (next n i == k) ≡ true → (k == i) ≡ false
after_other n i k three low below h = grind (arith, nat_tests)

before_other : (n i k : ℕ) → 3 ≤ n → i < n → k < n → (next n i == k) ≡ true → (i == k) ≡ false
before_other n i k three low below h = grind (arith, nat_tests)

torus_joins : (w h : ℕ) (d : Bool) (u v : ℕ) → 3 ≤ w → 3 ≤ h → u < w * h → v < w * h
    → shape_joins (Shape.Torus w h d) u v ≡ frame_joins (torus_frame w h d) u v
torus_joins w h true u v wide high low below =
    let y_low = row_below w (omega arith) h u low in
    let b_low = row_below w (omega arith) h v below in
    joined_alike true (column w u) (row w u) (column w v) (row w v) (next w (column w u)) (next w (column w v)) (next h (row w u)) (next h (row w v))
    (after_other h (row w u) (row w v) high y_low b_low) (before_other h (row w v) (row w u) high b_low y_low)
torus_joins w h false u v wide high low below =
    let y_low = row_below w (omega arith) h u low in
    let b_low = row_below w (omega arith) h v below in
    joined_alike false (column w u) (row w u) (column w v) (row w v) (next w (column w u)) (next w (column w v)) (next h (row w u)) (next h (row w v))
    (after_other h (row w u) (row w v) high y_low b_low) (before_other h (row w v) (row w u) high b_low y_low)

grid_joins : (w h : ℕ) (u v : ℕ) → shape_joins (Shape.Grid w h) u v ≡ frame_joins (grid_frame w h Slant.Straight) u v
grid_joins w h u v = plain (column w u) (row w u) (column w v) (row w v) where
  plain : (x y a b : ℕ) → (((y == b && x + 1 == a) || (x == a && y + 1 == b)) || ((b == y && a + 1 == x) || (a == x && b + 1 == y)))
      ≡ (if b == y then (x + 1 == a || a + 1 == x) else ((y + 1 == b || b + 1 == y) && (a == x || false)))
  plain x y a b = grind (arith, nat_tests)

-- a grid with all diagonals
diagonal_joins : (w h : ℕ) (u v : ℕ) → shape_joins (Shape.DiagonalGrid w h false) u v ≡ frame_joins (grid_frame w h Slant.Diagonal) u v
diagonal_joins w h u v = plain (column w u) (row w u) (column w v) (row w v) where
  plain : (x y a b : ℕ)
      → (((y == b && x + 1 == a) || (x == a && y + 1 == b) || (y + 1 == b && (x + 1 == a || a + 1 == x))) || ((b == y && a + 1 == x) || (a == x && b + 1 == y) || (b + 1 == y && (a + 1 == x || x + 1 == a))))
      ≡ (if b == y then (x + 1 == a || a + 1 == x) else ((y + 1 == b || b + 1 == y) && (a == x || (x + 1 == a || a + 1 == x))))
  plain x y a b =
      elim (cases_Bool (b == y)) [
        | inl same ↦ grind (arith, nat_tests)
        | inr other ↦ grind (arith, nat_tests)
      ]

-- cells of hexagons: links lead down to the right from odd rows, and to the left from even ones
module _ (x y a b : ℕ) where
  abbrev down : Bool
  down = (y == b && x + 1 == a) || (x == a && y + 1 == b) || (y + 1 == b && ((y % 2 == 1 && x + 1 == a) || (y % 2 == 0 && a + 1 == x)))

  abbrev up : Bool
  up = (b == y && a + 1 == x) || (a == x && b + 1 == y) || (b + 1 == y && ((b % 2 == 1 && a + 1 == x) || (b % 2 == 0 && x + 1 == a)))

  abbrev near : Bool
  near =
      if b == y then (x + 1 == a || a + 1 == x)
      else ((y + 1 == b || b + 1 == y) && (a == x || ((if y % 2 == 1 then nat_lt x a else nat_lt a x) && (x + 1 == a || a + 1 == x))))

  same_row : (b == y) ≡ true → (down || up) ≡ near
  same_row same = grind (arith, nat_tests)

  odd_above : (b == y) ≡ false → (y % 2 == 1) ≡ true → (b + 1 == y) ≡ true → (down || up) ≡ near
  odd_above other odd above =
      let even : (b % 2 == 0) ≡ true = grind (arith, nat_tests) in
      grind (arith, nat_tests)

  odd_below : (b == y) ≡ false → (y % 2 == 1) ≡ true → (b + 1 == y) ≡ false → (down || up) ≡ near
  odd_below other odd below =
      let even : (y % 2 == 0) ≡ false = grind (arith, nat_tests) in
      grind (arith, nat_tests)

  even_above : (b == y) ≡ false → (y % 2 == 1) ≡ false → (b + 1 == y) ≡ true → (down || up) ≡ near
  even_above other even above =
      let odd : (b % 2 == 1) ≡ true = grind (arith, nat_tests) in
      grind (arith, nat_tests)

  even_below : (b == y) ≡ false → (y % 2 == 1) ≡ false → (b + 1 == y) ≡ false → (down || up) ≡ near
  even_below other even below =
      let none : (y % 2 == 0) ≡ true = grind (arith, nat_tests) in
      grind (arith, nat_tests)

  hexagons : (down || up) ≡ near
  hexagons =
      elim (cases_Bool (b == y)) [
        | inl same ↦ same_row same
        | inr other ↦
            elim (cases_Bool (y % 2 == 1)) [
              | inl odd ↦
                  elim (cases_Bool (b + 1 == y)) [
                    | inl above ↦ odd_above other odd above
                    | inr below ↦ odd_below other odd below
                  ]
              | inr even ↦
                  elim (cases_Bool (b + 1 == y)) [
                    | inl above ↦ even_above other even above
                    | inr below ↦ even_below other even below
                  ]
            ]
      ]

hexagon_joins : (w h : ℕ) (u v : ℕ) → shape_joins (Shape.DiagonalGrid w h true) u v ≡ frame_joins (grid_frame w h Slant.Hexagonal) u v
hexagon_joins w h u v = hexagons (column w u) (row w u) (column w v) (row w v)

-- the frame joins what the shape joins
abbrev Agrees : Shape → Frame → Type 0
Agrees s f = (u v : ℕ) → u < frame_nodes f → v < frame_nodes f → frame_joins f u v ≡ shape_joins s u v

path_agrees : (n : ℕ) → Agrees (Shape.Path n) (row_frame n false)
path_agrees n u v low below =
    let first : u < n = omega arith in
    let second : v < n = omega arith in
    rw (only_row n u first, only_row n v second, only_column n u first, only_column n v second) refl

ring_agrees : (n : ℕ) → Agrees (Shape.Ring n) (row_frame n true)
ring_agrees n u v low below =
    let first : u < n = omega arith in
    let second : v < n = omega arith in
    rw (only_row n u first, only_row n v second, only_column n u first, only_column n v second) refl

torus_agrees : (w h : ℕ) (d : Bool) → 3 ≤ w → 3 ≤ h → Agrees (Shape.Torus w h d) (torus_frame w h d)
torus_agrees w h d wide high u v low below = sym (torus_joins w h d u v wide high low below)

sides : (low w h : ℕ) → (nat_le low w && nat_le low h) ≡ true → (low ≤ w) × (low ≤ h)
sides low w h both = let (a, b) = and_parts (nat_le low w) (nat_le low h) both in (grind (arith, nat_tests), grind (arith, nat_tests))

pub agrees : (s : Shape) (f : Frame) → frame_of s ≡ Some f → has_enough s ≡ true → Agrees s f
agrees (Shape.Path n) f h enough = subst (Agrees (Shape.Path n)) (same_Some (row_frame n false) f h) (path_agrees n)
agrees (Shape.Ring n) f h enough = subst (Agrees (Shape.Ring n)) (same_Some (row_frame n true) f h) (ring_agrees n)
agrees (Shape.Star n) f h enough = absurd cc
agrees (Shape.Grid w k) f h enough = subst (Agrees (Shape.Grid w k)) (same_Some (grid_frame w k Slant.Straight) f h) (λ u v low below. sym (grid_joins w k u v))
agrees (Shape.DiagonalGrid w k true) f h enough = subst (Agrees (Shape.DiagonalGrid w k true)) (same_Some (grid_frame w k Slant.Hexagonal) f h) (λ u v low below. sym (hexagon_joins w k u v))
agrees (Shape.DiagonalGrid w k false) f h enough = subst (Agrees (Shape.DiagonalGrid w k false)) (same_Some (grid_frame w k Slant.Diagonal) f h) (λ u v low below. sym (diagonal_joins w k u v))
agrees (Shape.Torus w k d) f h enough =
    let three = sides 3 w k enough in
    subst (Agrees (Shape.Torus w k d)) (same_Some (torus_frame w k d) f h) (torus_agrees w k d three.0 three.1)
agrees (Shape.Complete n) f h enough = absurd cc
agrees (Shape.Bipartite l r) f h enough = absurd cc
agrees (Shape.Tree n k) f h enough = absurd cc
agrees (Shape.Hypercube d) f h enough = absurd cc

-- the frame of a shape has its nodes
nodes_are : (s : Shape) (f : Frame) → frame_of s ≡ Some f → frame_nodes f ≡ node_count s
nodes_are (Shape.Path n) f h = subst (λ (g : Frame). frame_nodes g ≡ n) (same_Some (row_frame n false) f h) (omega arith)
nodes_are (Shape.Ring n) f h = subst (λ (g : Frame). frame_nodes g ≡ n) (same_Some (row_frame n true) f h) (omega arith)
nodes_are (Shape.Star n) f h = absurd cc
nodes_are (Shape.Grid w k) f h = subst (λ (g : Frame). frame_nodes g ≡ w * k) (same_Some (grid_frame w k Slant.Straight) f h) refl
nodes_are (Shape.DiagonalGrid w k true) f h = subst (λ (g : Frame). frame_nodes g ≡ w * k) (same_Some (grid_frame w k Slant.Hexagonal) f h) refl
nodes_are (Shape.DiagonalGrid w k false) f h = subst (λ (g : Frame). frame_nodes g ≡ w * k) (same_Some (grid_frame w k Slant.Diagonal) f h) refl
nodes_are (Shape.Torus w k d) f h = subst (λ (g : Frame). frame_nodes g ≡ w * k) (same_Some (torus_frame w k d) f h) refl
nodes_are (Shape.Complete n) f h = absurd cc
nodes_are (Shape.Bipartite l r) f h = absurd cc
nodes_are (Shape.Tree n k) f h = absurd cc
nodes_are (Shape.Hypercube d) f h = absurd cc

line_is : (n : ℕ) → 1 ≤ n → IsAxis (record { places = n; closed = false })
line_is n some = record { some = some; ring = λ closed. cc }

ring_is : (n : ℕ) → 3 ≤ n → IsAxis (record { places = n; closed = true })
ring_is n three = record { some = omega arith; ring = λ closed. three }

at_least : (low n : ℕ) → nat_le low n ≡ true → low ≤ n
at_least low n h = grind (arith, nat_tests)

grid_is : (w k : ℕ) (slant : Slant) → 1 ≤ w → 1 ≤ k → w * k ≤ most_rows → IsFrame (grid_frame w k slant)
grid_is w k slant wide high small = record { columns = line_is w wide; rows = line_is k high; small = small }

-- the frame of a shape that nothing refuses is one
pub is_frame : (s : Shape) (f : Frame) → frame_of s ≡ Some f → refusal_of s ≡ None → IsFrame f
is_frame (Shape.Path n) f h fits =
    let is = fits_large (Shape.Path n) fits in
    subst IsFrame (same_Some (row_frame n false) f h) (record { columns = line_is n (at_least 1 n is.enough); rows = line_is 1 (omega arith); small = omega (arith, is.small) })
is_frame (Shape.Ring n) f h fits =
    let is = fits_large (Shape.Ring n) fits in
    subst IsFrame (same_Some (row_frame n true) f h) (record { columns = ring_is n (at_least 3 n is.enough); rows = line_is 1 (omega arith); small = omega (arith, is.small) })
is_frame (Shape.Star n) f h fits = absurd cc
is_frame (Shape.Grid w k) f h fits =
    let is = fits_large (Shape.Grid w k) fits in
    let some = sides 1 w k is.enough in
    subst IsFrame (same_Some (grid_frame w k Slant.Straight) f h) (grid_is w k Slant.Straight some.0 some.1 is.small)
is_frame (Shape.DiagonalGrid w k true) f h fits =
    let is = fits_large (Shape.DiagonalGrid w k true) fits in
    let some = sides 1 w k is.enough in
    subst IsFrame (same_Some (grid_frame w k Slant.Hexagonal) f h) (grid_is w k Slant.Hexagonal some.0 some.1 is.small)
is_frame (Shape.DiagonalGrid w k false) f h fits =
    let is = fits_large (Shape.DiagonalGrid w k false) fits in
    let some = sides 1 w k is.enough in
    subst IsFrame (same_Some (grid_frame w k Slant.Diagonal) f h) (grid_is w k Slant.Diagonal some.0 some.1 is.small)
is_frame (Shape.Torus w k d) f h fits =
    let is = fits_large (Shape.Torus w k d) fits in
    let three = sides 3 w k is.enough in
    subst IsFrame (same_Some (torus_frame w k d) f h) (record { columns = ring_is w three.0; rows = ring_is k three.1; small = is.small })
is_frame (Shape.Complete n) f h fits = absurd cc
is_frame (Shape.Bipartite l r) f h fits = absurd cc
is_frame (Shape.Tree n k) f h fits = absurd cc
is_frame (Shape.Hypercube d) f h fits = absurd cc

-- a node of the shape is one of the frame
pub frame_low : (s : Shape) (f : Frame) → frame_of s ≡ Some f → (u : ℕ) → u < node_count s → u < frame_nodes f
frame_low s f h u low = subst (λ (n : ℕ). u < n) (sym (nodes_are s f h)) low

-- the neighbours that the frame gives a node are those of the shape
pub frame_row : (s : Shape) (f : Frame) → frame_of s ≡ Some f → refusal_of s ≡ None → (u : ℕ) → u < node_count s → frame_neighbours f u ≡ shape_neighbours s u
frame_row s f h fits u low =
    let is = fits_large s fits in
    let nodes = nodes_are s f h in
    ap (λ (n : ℕ). filter (frame_joins f u) (numbers_below n)) nodes
    ∙ filter_agrees (frame_joins f u) (shape_joins s u) 0 (node_count s)
    (λ v from high. agrees s f h is.enough u v (frame_low s f h u low) (frame_low s f h v (omega arith)))

-- Internal: the links of a shape in the order in which they are made. No public clause cites it.
use Rattle.std.specs.Prelude.{ℕ, ◌+◌, ◌-◌, ◌*◌, ◌/◌, ◌^◌, ◌==◌, Bool, ◌&&◌, List, [], ◌∷◌, ◌++◌, map, nat_lt, if◌then◌else◌}
use Rattle.std.specs.List.{range_with_len}
use Rattle.link_net.specs.Neighbours.{numbers_below}
use Rattle.net_text.specs.Listing.{Link}
use Rattle.net_shapes.specs.Shapes.{next, row, column, digit, slants_left, slants_right}
use Rattle.net_shapes.specs.declared.shape.Shape.{Shape}

-- the link from u to w
abbrev pub link_to : ℕ → ℕ → Link
link_to u w = (u, w, 1)

-- the links from each of these nodes to those ahead of it
abbrev pub links_ahead : (ℕ → List ℕ) → List ℕ → List Link
links_ahead next [] = []
links_ahead next (u ∷ us) = map (link_to u) (next u) ++ links_ahead next us

-- the node, where it is wanted
abbrev pub when : Bool → ℕ → List ℕ
when wanted w = if wanted then w ∷ [] else []

-- the node before i on a ring of n
abbrev pub prev : ℕ → ℕ → ℕ
prev n i = if i == 0 then n - 1 else i - 1

-- the node at a column and a row, in rows of w
abbrev pub place : ℕ → ℕ → ℕ → ℕ
place w x y = y * w + x

-- the nodes beside the one below u on a torus
abbrev pub diagonals : ℕ → ℕ → ℕ → List ℕ
diagonals w h u = place w (next w (column w u)) (next h (row w u)) ∷ place w (prev w (column w u)) (next h (row w u)) ∷ []

-- the nodes beside the one below u on a grid with diagonals
abbrev pub slanted : ℕ → ℕ → Bool → ℕ → List ℕ
slanted w h hexagons u =
    when (nat_lt (row w u + 1) h && (slants_right hexagons (row w u) && nat_lt (column w u + 1) w)) (u + w + 1)
    ++ when (nat_lt (row w u + 1) h && (slants_left hexagons (row w u) && nat_lt 0 (column w u))) (u + w - 1)

-- the numbers with 1 in place of a binary digit 0 of u, at one of these places
abbrev pub raised : ℕ → List ℕ → List ℕ
raised u [] = []
raised u (b ∷ bs) = when (digit u b == 0) (u + 2 ^ b) ++ raised u bs

-- the nodes to which a shape leads from u
abbrev pub ahead : Shape → ℕ → List ℕ
ahead (Shape.Path n) u = when (nat_lt (u + 1) n) (u + 1)
ahead (Shape.Ring n) u = next n u ∷ []
ahead (Shape.Star n) u = when (nat_lt 0 u) 0
ahead (Shape.Grid w h) u = when (nat_lt (column w u + 1) w) (u + 1) ++ when (nat_lt (row w u + 1) h) (u + w)
ahead (Shape.DiagonalGrid w h x) u = (when (nat_lt (column w u + 1) w) (u + 1) ++ when (nat_lt (row w u + 1) h) (u + w)) ++ slanted w h x u
ahead (Shape.Torus w h d) u = place w (next w (column w u)) (row w u) ∷ place w (column w u) (next h (row w u)) ∷ (if d then diagonals w h u else [])
ahead (Shape.Complete n) u = range_with_len (u + 1) (n - (u + 1))
ahead (Shape.Bipartite l r) u = range_with_len l (if nat_lt u l then r else 0)
ahead (Shape.Tree n k) u = when (nat_lt 0 u) ((u - 1) / k)
ahead (Shape.Hypercube d) u = raised u (numbers_below d)

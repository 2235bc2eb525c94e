-- The parts of a network that no links join.
use Rattle.std.specs.Prelude.{◌≡◌, ◌<◌, ℕ, List, [], ◌∷◌, length, map, Contains, slice_index_or}
use Rattle.link_net.specs.Neighbours.{Neighbours, row}

-- a link joins the node u with v
abbrev pub IsNeighbour : Neighbours → ℕ → ℕ → Type 0
IsNeighbour network u v = Contains (map (λ a. a.0) (row network u)) v

-- links lead from u by way of these nodes, and the last of them is w
abbrev pub IsWay : Neighbours → ℕ → List ℕ → ℕ → Type 0
IsWay network u [] w = u ≡ w
IsWay network u (v ∷ way) w = IsNeighbour network u v × IsWay network v way w

-- some way of links leads from u to w
abbrev pub AreJoined : Neighbours → ℕ → ℕ → Type 0
AreJoined network u w = (way : List ℕ) × IsWay network u way w

-- the network has so many parts that no links join: there are so many nodes, one of each part, of which no two are joined, and each node is joined with one of them
pub record HasParts (network : Neighbours) (count : ℕ) : Type 0 where
  pub firsts : List ℕ
  pub counted : length firsts ≡ count
  pub apart : (i j : ℕ) → i < j → j < length firsts → AreJoined network (slice_index_or firsts i 0) (slice_index_or firsts j 0) → ⊥
  pub all : (u : ℕ) → u < length network → (i : ℕ) × (i < length firsts) × AreJoined network (slice_index_or firsts i 0) u

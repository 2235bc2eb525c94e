-- Ways from node to node over links, and how far nodes are from each other.
use Rattle.std.specs.Prelude.{◌≡◌, ℕ, zero, suc, ◌≤◌, ◌<◌}
use Rattle.link_net.specs.Neighbours.{Neighbours, degree, neighbour}

-- one comes from u to v over so many links
abbrev pub IsWay : Neighbours → ℕ → ℕ → ℕ → Type 0
IsWay network zero u v = u ≡ v
IsWay network (suc n) u v = (j : ℕ) × (j < degree network u) × IsWay network n (neighbour network u j) v

-- the least number of links over which one comes from u to v
pub record IsDistance (network : Neighbours) (n u v : ℕ) : Type 0 where
  pub way : IsWay network n u v
  pub least : (m : ℕ) → IsWay network m u v → n ≤ m

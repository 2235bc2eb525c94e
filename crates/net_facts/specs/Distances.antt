-- How far apart the nodes of a network are.
use Rattle.std.specs.Prelude.{◌≤◌, ◌<◌, ◌≡◌, ℕ, List, length}
use Rattle.link_net.specs.Neighbours.{Neighbours}
use Rattle.net_facts.specs.Parts.{AreJoined, IsWay}

-- a way of so many links at most leads from u to w
abbrev pub IsWithin : Neighbours → ℕ → ℕ → ℕ → Type 0
IsWithin network u w links = (way : List ℕ) × IsWay network u way w × (length way ≤ links)

-- the distance of w from u: some way from u to w has so many links, and none has fewer
pub record IsDistance (network : Neighbours) (u w distance : ℕ) : Type 0 where
  pub way : (way : List ℕ) × IsWay network u way w × (length way ≡ distance)
  pub least : (way : List ℕ) → IsWay network u way w → distance ≤ length way

-- the greatest distance from u of the nodes that are joined with it: one is as far, and none is farther
pub record IsEccentricity (network : Neighbours) (u distance : ℕ) : Type 0 where
  pub far : (w : ℕ) × IsDistance network u w distance
  pub within : (w : ℕ) → AreJoined network u w → IsWithin network u w distance

-- the greatest distance between two nodes that are joined: two are as far apart, and no two are farther
pub record IsDiameter (network : Neighbours) (distance : ℕ) : Type 0 where
  pub far : (u : ℕ) × (w : ℕ) × (u < length network) × IsDistance network u w distance
  pub within : (u w : ℕ) → u < length network → AreJoined network u w → IsWithin network u w distance

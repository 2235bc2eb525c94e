-- A network laid out in three lists: where each node's part begins, all neighbours, all weights.
use Rattle.std.specs.Prelude.{◌≡◌, ℕ, ◌+◌, ◌-◌, ◌≤◌, List, length, map, slice_index}
use Rattle.std.specs.List.{slice_range, zip}
use Rattle.std.specs.List.Sorted.{IsNonDecreasing}
use Rattle.link_net.specs.Neighbours.{Neighbours, numbers_below, IsNetwork, AreRows}

-- the part of the items that belongs to u: from its offset up to the next one
abbrev pub part : {X : Type 0} → List ℕ → List X → ℕ → List X
part offsets items u = slice_range items (slice_index offsets u) (slice_index offsets (u + 1))

-- the network that the three lists hold
abbrev pub rows_of : List ℕ → List ℕ → List ℕ → Neighbours
rows_of offsets neighbours weights = map (part offsets (zip neighbours weights)) (numbers_below (length offsets - 1))

-- offsets that rise from 0 to the number of items
pub record AreOffsets (offsets : List ℕ) (count : ℕ) : Type 0 where
  pub some : 1 ≤ length offsets
  pub first : slice_index offsets 0 ≡ 0
  pub last : slice_index offsets (length offsets - 1) ≡ count
  pub rising : IsNonDecreasing offsets

-- the three lists hold a network
pub record IsLaidOut (offsets neighbours weights : List ℕ) : Type 0 where
  pub placed : AreOffsets offsets (length neighbours)
  pub paired : length weights ≡ length neighbours
  pub network : IsNetwork (rows_of offsets neighbours weights)

-- the three lists hold rows that a round can go over
pub record HoldRows (offsets neighbours weights : List ℕ) : Type 0 where
  pub placed : AreOffsets offsets (length neighbours)
  pub paired : length weights ≡ length neighbours
  pub rows : AreRows (rows_of offsets neighbours weights)

-- Networks of any size.
use Rattle.std.specs.Prelude.{◌≡◌, ℕ, ◌≤◌, List, length}
use Rattle.link_net.specs.Layout.{HoldRows, AreOffsets}
use Rattle.link_net.specs.Neighbours.{Neighbours, AreRows}

-- rows that a round can go over, one at least
pub record IsLargeNetwork (network : Neighbours) : Type 0 where
  pub some : 1 ≤ length network
  pub rows : AreRows network

-- the three lists hold such a network
pub record AreLaidOut (offsets neighbours weights : List ℕ) : Type 0 where
  pub some : 2 ≤ length offsets
  pub held : HoldRows offsets neighbours weights

-- the three lists hold rows, whatever numbers stand in them
pub record ArePlaced (offsets neighbours weights : List ℕ) : Type 0 where
  pub placed : AreOffsets offsets (length neighbours)
  pub paired : length weights ≡ length neighbours

-- Edges between named ends.
use Rattle.std.specs.Prelude.{ℕ, Bool, List}

-- an edge: the bytes of the names of its two ends, its weight, whether that is exact, and the number of its line
pub record NamedEdge : Type 0 where
  pub first : List ℕ
  pub second : List ℕ
  pub weight : ℕ
  pub exact : Bool
  pub line : ℕ

-- Nodes that were reached.
use Rattle.std.specs.Prelude.{◌≡◌, ◌<◌, ℕ, suc, ◌+◌, Bool, true, false, List, [], ◌∷◌, ◌++◌, length, All, Contains, slice_index_or}
use Rattle.link_net.specs.Neighbours.{Neighbours}
use Rattle.net_facts.specs.Parts.{IsNeighbour}

-- how many nodes have no mark
abbrev pub unmarked : List Bool → ℕ
unmarked [] = 0
unmarked (true ∷ marks) = unmarked marks
unmarked (false ∷ marks) = suc (unmarked marks)

-- the marks are those of these nodes, each of which is listed once
pub record AreReached (marks : List Bool) (nodes : List ℕ) : Type 0 where
  pub listed : (u : ℕ) → slice_index_or marks u false ≡ true → Contains nodes u
  pub marked : (u : ℕ) → Contains nodes u → slice_index_or marks u false ≡ true
  pub room : length nodes + unmarked marks ≡ length marks

-- the list grows at its end, by such nodes
pub record Grows (Fits : ℕ → Type 0) (old later : List ℕ) : Type 0 where
  pub more : List ℕ
  pub whole : later ≡ old ++ more
  pub each : All Fits more

-- the neighbours of the first nodes, so many, are among the nodes
abbrev pub IsClosedBelow : Neighbours → List ℕ → ℕ → Type 0
IsClosedBelow network nodes count = (i v : ℕ) → i < count → IsNeighbour network (slice_index_or nodes i 0) v → Contains nodes v

-- the neighbours of the nodes are among them
abbrev pub IsClosed : Neighbours → List ℕ → Type 0
IsClosed network nodes = IsClosedBelow network nodes (length nodes)

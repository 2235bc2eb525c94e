-- Rows of neighbours by a test that says which nodes are joined.
use Rattle.std.specs.Prelude.{ℕ, Bool, List, map}
use Rattle.std.specs.List.{filter}
use Rattle.link_net.specs.Neighbours.{Neighbours, numbers_below}

-- the nodes that are joined with u, of n nodes, by rising number
abbrev pub joined_with : (ℕ → ℕ → Bool) → ℕ → ℕ → List ℕ
joined_with joins n u = filter (joins u) (numbers_below n)

-- the network of n nodes: for each by rising number, the nodes that are joined with it, by rising number, each with weight 1
abbrev pub joined_rows : (ℕ → ℕ → Bool) → ℕ → Neighbours
joined_rows joins n = map (λ u. map (λ w. (w, 1)) (joined_with joins n u)) (numbers_below n)

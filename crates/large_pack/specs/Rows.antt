-- The network that arcs make.
use Rattle.std.specs.Prelude.{◌≡◌, ◌<◌, ℕ, ◌==◌, List, length, map}
use Rattle.std.specs.declared.cmp.Ordering.{Ordering}
use Rattle.std.specs.Ordering.{nat_cmp, ordering_then}
use Rattle.std.specs.List.{filter}
use Rattle.std.specs.List.Sorted.{IsPermutation, IsSorted}
use Rattle.link_net.specs.Arcs.{Arc}
use Rattle.link_net.specs.Neighbours.{Neighbours, row}

-- where the arcs from u lead, each with its weight
abbrev pub ends_from : ℕ → List Arc → List (ℕ × ℕ)
ends_from u arcs = map (λ a. (a.1, a.2)) (filter (λ a. a.0 == u) arcs)

-- by neighbour, and of one neighbour by weight
abbrev pub end_cmp : ℕ × ℕ → ℕ × ℕ → Ordering
end_cmp a b = ordering_then (nat_cmp a.0 b.0) (nat_cmp a.1 b.1)

-- so many nodes, and in the row of each one just the ends of the arcs from it, in order
pub record HasArcs (nodes : ℕ) (arcs : List Arc) (network : Neighbours) : Type 0 where
  pub count : length network ≡ nodes
  pub rows : (u : ℕ) → u < nodes → IsPermutation (ends_from u arcs) (row network u)
  pub rising : (u : ℕ) → u < nodes → IsSorted end_cmp (row network u)

-- What one wants to know of a network.
use Rattle.std.specs.Prelude.{◌≡◌, ◌≤◌, ℕ, List, [], map, flat_map, All, Contains, Option, Some, None}
use Rattle.link_net.specs.Neighbours.{Neighbours}
use Rattle.net_facts.specs.declared.facts.Range.{Range}

-- the least and the greatest of some numbers
pub record IsRange (numbers : List ℕ) (range : Range) : Type 0 where
  pub least : Contains numbers range.least
  pub greatest : Contains numbers range.greatest
  pub within : All (λ x. (range.least ≤ x) × (x ≤ range.greatest)) numbers

-- the range of some numbers, and none where there is no number
abbrev pub IsRangeOf : List ℕ → Option Range → Type 0
IsRangeOf numbers None = numbers ≡ []
IsRangeOf numbers (Some range) = IsRange numbers range

-- the weights of a network's links, from both ends of each
abbrev pub weights_of : Neighbours → List ℕ
weights_of network = flat_map (λ row. map (λ a. a.1) row) network

-- the most nodes of a network whose diameter is told
abbrev pub most_walks : ℕ
most_walks = 2048

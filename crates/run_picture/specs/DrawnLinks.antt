-- Which links the text of a network has. A link is its two ends and its weight.
use Rattle.std.specs.Prelude.{◌≡◌, ◌⊎◌, ℕ, ◌<◌, ◌^◌, List, All, AllPairs, Contains}
use Rattle.std.specs.List.{flat_map}
use Rattle.link_net.specs.Neighbours.{IsNetwork, Neighbours, degree, neighbour, weight}
use Rattle.run_picture.specs.Drawn.{link_line, link_lines}

-- node w is among the neighbours of node u, over a link of weight x
abbrev pub HasLink : Neighbours → ℕ → ℕ → ℕ → Type 0
HasLink network u w x = (j : ℕ) × (j < degree network u) × (neighbour network u j ≡ w) × (weight network u j ≡ x)

-- the lines of links, one after the other
abbrev pub lines_of : List (ℕ × ℕ × ℕ) → List ℕ
lines_of links = flat_map (λ l. link_line l.0 l.1 l.2) links

-- each of the three numbers fits 32 bits
abbrev pub FitsWords : ℕ × ℕ × ℕ → Type 0
FitsWords l = (l.0 < 2 ^ 32) × (l.1 < 2 ^ 32) × (l.2 < 2 ^ 32)

-- these are the links of the network, each once
pub record AreAllLinks (network : Neighbours) (links : List (ℕ × ℕ × ℕ)) : Type 0 where
  -- nothing else: each leads from the lesser number to the greater, and the network has it, with its weight
  pub only : All (λ l. (l.0 < l.1) × HasLink network l.0 l.1 l.2) links
  -- none is left out, whichever of its nodes is looked at
  pub all : (u w x : ℕ) → HasLink network u w x → Contains links (u, w, x) ⊎ Contains links (w, u, x)
  -- none stands twice: no two of them join the same two nodes
  pub once : AllPairs (λ k l. k.0 ≡ l.0 → k.1 ≡ l.1 → ⊥) links

-- the lines of a network are those of its links, each once
abbrev pub EachLinkIsDrawnOnce : Type 0
EachLinkIsDrawnOnce = (network : Neighbours) → IsNetwork network → (links : List (ℕ × ℕ × ℕ)) × (link_lines network ≡ lines_of links) × AreAllLinks network links

-- two lists of links, their numbers of 32 bits, that have the same lines are the same
abbrev pub LinesTellLinks : Type 0
LinesTellLinks = (links others : List (ℕ × ℕ × ℕ)) → All FitsWords links → All FitsWords others → lines_of links ≡ lines_of others → links ≡ others

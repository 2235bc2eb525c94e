-- A network as its nodes' neighbours, and what makes such lists a network.
use Rattle.std.specs.Prelude.{◌≡◌, ◌≢◌, ℕ, ◌*◌, ◌<◌, ◌≤◌, List, [], length, slice_get, slice_index_or, Option, option_map, option_and_then}
use Rattle.std.specs.List.{range_with_len, sum_by}
use Rattle.link_net.specs.Limits.{most_nodes, most_links, most_neighbours, most_rows}

-- a network: for each node by rising number, its neighbours by rising number, each with the weight of the link to it
abbrev pub Neighbours : Type 0
Neighbours = List (List (ℕ × ℕ))

-- the numbers of n nodes, by rising number
abbrev pub numbers_below : ℕ → List ℕ
numbers_below n = range_with_len 0 n

-- the neighbours of a node, with the weights; a slot is a place in this list
abbrev pub row : Neighbours → ℕ → List (ℕ × ℕ)
row network u = slice_index_or network u []

-- how many neighbours a node has
abbrev pub degree : Neighbours → ℕ → ℕ
degree network u = length (row network u)

-- the neighbour at a slot of a node
abbrev pub neighbour : Neighbours → ℕ → ℕ → ℕ
neighbour network u j = (slice_index_or (row network u) j (0, 0)).0

-- the weight of the link to the neighbour at a slot of a node
abbrev pub weight : Neighbours → ℕ → ℕ → ℕ
weight network u j = (slice_index_or (row network u) j (0, 0)).1

-- the neighbour and the weight at a slot of a node, where there are that node and that slot
abbrev pub slot_at : Neighbours → ℕ → ℕ → Option (ℕ × ℕ)
slot_at network u j = option_and_then (λ row. slice_get row j) (slice_get network u)

-- the neighbour at a slot, where there is one
abbrev pub neighbour_at : Neighbours → ℕ → ℕ → Option ℕ
neighbour_at network u j = option_map (λ a. a.0) (slot_at network u j)

-- the weight at a slot, where there is one
abbrev pub weight_at : Neighbours → ℕ → ℕ → Option ℕ
weight_at network u j = option_map (λ a. a.1) (slot_at network u j)

-- the lists are a network within the bounds: links join two different nodes, and show the same weight from both ends
pub record IsNetwork (network : Neighbours) : Type 0 where
  pub some : 1 ≤ length network
  pub nodes : length network ≤ most_nodes
  pub degrees : (u : ℕ) → degree network u ≤ most_neighbours
  pub within : (u j : ℕ) → j < degree network u → neighbour network u j < length network
  pub apart : (u j : ℕ) → j < degree network u → neighbour network u j ≢ u
  pub rising : (u i j : ℕ) → i < j → j < degree network u → neighbour network u i < neighbour network u j
  pub both_ways : (u j : ℕ) → j < degree network u
      → (k : ℕ) × (k < degree network (neighbour network u j)) × (neighbour network (neighbour network u j) k ≡ u) × (weight network (neighbour network u j) k ≡ weight network u j)
  pub links : (k : ℕ) × (k ≤ most_links) × (2 * k ≡ sum_by length network)

-- lists that a round can go over: their numbers are words, each neighbour is a node, and no node has more neighbours than a word can say
pub record AreRows (network : Neighbours) : Type 0 where
  pub nodes : length network ≤ most_rows
  pub degrees : (u : ℕ) → degree network u ≤ most_rows
  pub within : (u j : ℕ) → j < degree network u → neighbour network u j < length network

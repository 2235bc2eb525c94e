-- Rows that are a simple network of any size, and where rows are none.
use Rattle.std.specs.Prelude.{◌≡◌, ◌≢◌, ℕ, ◌-◌, ◌<◌, ◌≤◌, ◌==◌, Bool, not, ◌&&◌, ◌||◌, nat_lt, nat_le, List, [], ◌∷◌, length, find, Option, None, option_map}
use Rattle.std.specs.List.{list_any}
use Rattle.std.specs.Option.{option_or}
use Rattle.link_net.specs.Limits.{most_rows}
use Rattle.link_net.specs.Neighbours.{Neighbours, row, degree, neighbour, weight, numbers_below}
use Rattle.link_net.specs.declared.simple.SimpleFault.{SimpleFault}
use Rattle.link_net.specs.declared.simple.SimpleFault.TheVariants.{Unordered, OneWay}

-- the rows are a simple network, whatever its size: a link joins two different nodes, stands once, and shows the same weight from both ends
pub record IsSimple (network : Neighbours) : Type 0 where
  pub nodes : length network ≤ most_rows
  pub degrees : (u : ℕ) → degree network u ≤ most_rows
  pub within : (u j : ℕ) → j < degree network u → neighbour network u j < length network
  pub apart : (u j : ℕ) → j < degree network u → neighbour network u j ≢ u
  pub rising : (u i j : ℕ) → i < j → j < degree network u → neighbour network u i < neighbour network u j
  pub both_ways : (u j : ℕ) → j < degree network u
      → (k : ℕ) × (k < degree network (neighbour network u j)) × (neighbour network (neighbour network u j) k ≡ u) × (weight network (neighbour network u j) k ≡ weight network u j)

-- the neighbour at a slot of node u is the node itself, or does not stand above the neighbour before it
abbrev pub is_unordered : Neighbours → ℕ → ℕ → Bool
is_unordered network u j = neighbour network u j == u || (nat_lt 0 j && nat_le (neighbour network u j) (neighbour network u (j - 1)))

-- node v has a link to node u with this weight
abbrev pub has_link : Neighbours → ℕ → ℕ → ℕ → Bool
has_link network v u w = list_any (λ a. a.0 == u && a.1 == w) (row network v)

-- the neighbour at a slot of node u has no link back with the same weight
abbrev pub leads_one_way : Neighbours → ℕ → ℕ → Bool
leads_one_way network u j = not (has_link network (neighbour network u j) u (weight network u j))

-- the first slot of node u that is such
abbrev pub unordered_slot : Neighbours → ℕ → Option ℕ
unordered_slot network u = find (is_unordered network u) (numbers_below (degree network u))

abbrev pub one_way_slot : Neighbours → ℕ → Option ℕ
one_way_slot network u = find (leads_one_way network u) (numbers_below (degree network u))

-- the first of some nodes with such a slot, and that slot
abbrev pub first_place : (ℕ → Option ℕ) → List ℕ → Option (ℕ × ℕ)
first_place slot [] = None
first_place slot (u ∷ us) = option_or (option_map (λ j. (u, j)) (slot u)) (first_place slot us)

-- where the neighbours of a node are not in order, and where a link leads one way
abbrev pub unordered_place : Neighbours → Option (ℕ × ℕ)
unordered_place network = first_place (unordered_slot network) (numbers_below (length network))

abbrev pub one_way_place : Neighbours → Option (ℕ × ℕ)
one_way_place network = first_place (one_way_slot network) (numbers_below (length network))

-- why rows are no simple network, if they are none: neighbours that are not in order come before links that lead one way
abbrev pub simple_fault : Neighbours → Option SimpleFault
simple_fault network =
    option_or (option_map (λ p. Unordered p.0 p.1) (unordered_place network)) (option_map (λ p. OneWay p.0 p.1) (one_way_place network))

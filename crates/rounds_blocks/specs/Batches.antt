-- How the nodes of a network stand in batches.
use Rattle.std.specs.Prelude.{ℕ, ◌≡◌, ◌<◌, ◌≤◌, List, length, map, take, All, IfSome, slice_index, slice_index_or}
use Rattle.std.specs.List.{flat_map}
use Rattle.std.specs.List.Sorted.{IsPermutation}
use Rattle.link_net.specs.Neighbours.{Neighbours, numbers_below, degree, neighbour, weight}
use Rattle.rounds_code.specs.declared.slot.Slot.{Slot}
use Rattle.rounds_code.specs.declared.windows.Windows.{Windows}
use Rattle.rounds_code.specs.Windows.{AreWindows}
use Rattle.rounds_blocks.specs.declared.batch.Batch.{Batch}

-- nodes by falling number of their neighbours
abbrev pub AreFalling : Neighbours → List ℕ → Type 0
AreFalling network nodes = (i j : ℕ) → i ≤ j → j < length nodes → degree network (slice_index nodes j) ≤ degree network (slice_index nodes i)

-- what stands in slot j of some nodes: the neighbours there of the first of them, which are those that have so many
pub record IsSlot (network : Neighbours) (nodes : List ℕ) (j : ℕ) (slot : Slot) : Type 0 where
  pub few : length slot.neighbours ≤ length nodes
  pub neighbours : slot.neighbours ≡ map (λ u. neighbour network u j) (take (length slot.neighbours) nodes)
  pub weights : slot.weights ≡ map (λ u. weight network u j) (take (length slot.neighbours) nodes)
  pub have : (i : ℕ) → i < length slot.neighbours → j < degree network (slice_index nodes i)
  pub lack : (i : ℕ) → length slot.neighbours ≤ i → i < length nodes → degree network (slice_index nodes i) ≤ j

-- windows of columns of so many nodes in which the neighbours in the first slots stand
pub record HaveWindows (nodes : ℕ) (slots : List Slot) (windows : Windows) : Type 0 where
  pub some : 0 < length windows.places.items
  pub inside : length windows.places.items ≤ length slots
  pub are : AreWindows (take (length windows.places.items) slots) nodes windows

-- at most 256 nodes, with their degrees and all their slots
pub record IsBatch (network : Neighbours) (batch : Batch) : Type 0 where
  pub few : length batch.nodes ≤ 256
  pub within : All (λ u. u < length network) batch.nodes
  pub degrees : batch.degrees.items ≡ map (degree network) batch.nodes
  pub slots : (j : ℕ) (d : Slot) → j < length batch.slots.items → IsSlot network batch.nodes j (slice_index_or batch.slots.items j d)
  pub whole : All (λ u. degree network u ≤ length batch.slots.items) batch.nodes
  pub windows : IfSome batch.windows (HaveWindows (length network) batch.slots.items)

-- the slots from one place on to the one before another have so many neighbours each
abbrev pub AreAlike : List Slot → ℕ → ℕ → ℕ → Type 0
AreAlike slots at behind count = (j : ℕ) (d : Slot) → at ≤ j → j < behind → length (slice_index_or slots j d).neighbours ≡ count

-- the nodes of batches, one batch after another
abbrev pub nodes_of : List Batch → List ℕ
nodes_of batches = flat_map (λ batch. batch.nodes) batches

-- batches in which each node of the network stands once
pub record IsLayout (network : Neighbours) (batches : List Batch) : Type 0 where
  pub each : All (IsBatch network) batches
  pub once : IsPermutation (numbers_below (length network)) (nodes_of batches)

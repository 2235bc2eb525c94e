-- In which batches the nodes of a batch and their neighbours stand.
use Rattle.std.specs.Prelude.{ℕ, ◌≡◌, ◌<◌, List, length, All, Bool, true, false, slice_index, slice_index_or}
use Rattle.std.specs.List.{Contains}
use Rattle.link_net.specs.Neighbours.{Neighbours, degree, neighbour}
use Rattle.rounds_blocks.specs.declared.batch.Batch.{Batch}
use Rattle.rounds_blocks.specs.declared.near.Near.{Near}
use Rattle.rounds_blocks.specs.declared.near.Near.TheVariants as nears

-- a batch is marked
abbrev pub IsDue : List Bool → ℕ → Type 0
IsDue due i = slice_index_or due i false ≡ true

-- a batch is not marked
abbrev pub Sleeps : List Bool → ℕ → Type 0
Sleeps due i = slice_index_or due i false ≡ false

-- the node stands in the batch of this number
pub record StandsIn (batches : List Batch) (u i : ℕ) : Type 0 where
  pub there : i < length batches
  pub stands : (d : Batch) → Contains (slice_index_or batches i d).nodes u

-- for each of the nodes the number of a batch in which it stands
abbrev pub AreHomes : List Batch → ℕ → List ℕ → Type 0
AreHomes batches nodes homes = (u : ℕ) → u < nodes → StandsIn batches u (slice_index homes u)

-- a batch bears this stamp
abbrev pub IsStamped : List ℕ → ℕ → ℕ → Type 0
IsStamped stamps stamp i = slice_index stamps i ≡ stamp

-- the batch of this number may have to do with a batch: one that is listed, or any
abbrev pub IsNear : Near → ℕ → Type 0
IsNear nears.Any i = Unit {0}
IsNear (nears.Listed places) i = Contains places.items i

-- those that are listed are among so many batches
abbrev pub IsWithin : ℕ → Near → Type 0
IsWithin count nears.Any = Unit {0}
IsWithin count (nears.Listed places) = All (λ i. i < count) places.items

-- none of the batches near is marked
abbrev pub SleepNear : List Bool → Near → Type 0
SleepNear marks near = (i : ℕ) → i < length marks → IsNear near i → Sleeps marks i

-- a batch near has the node
pub record IsAmong (batches : List Batch) (near : Near) (u : ℕ) : Type 0 where
  pub home : ℕ
  pub listed : IsNear near home
  pub stands : StandsIn batches u home

-- the batches near have the nodes of a batch, and all their neighbours
pub record AreNear (network : Neighbours) (batches : List Batch) (batch : Batch) (near : Near) : Type 0 where
  pub own : All (IsAmong batches near) batch.nodes
  pub neighbours : All (λ u. (j : ℕ) → j < degree network u → IsAmong batches near (neighbour network u j)) batch.nodes

-- for each batch those that are near it
pub record HaveNear (network : Neighbours) (batches : List Batch) (nears : List Near) : Type 0 where
  pub count : length nears ≡ length batches
  pub within : All (IsWithin (length batches)) nears
  pub each : (i : ℕ) (d : Batch) (e : Near) → i < length batches → AreNear network batches (slice_index_or batches i d) (slice_index_or nears i e)

use Rattle.std.proofs.Common.{length, ◌-◌, ◌<◌, ◌≤◌, ℕ, All}
use Rattle.rounds_blocks.specs.Walks.{IsRange, IsShared}
use Rattle.rounds_blocks.proofs.Parts.{JoinTo}
use Rattle.rounds_blocks.proofs.node_ranges.ranges_of.Given as goal

-- the first batches are shared
abbrev pub invariant-loop-first : goal.invariant-loop-first
invariant-loop-first l = record {
  few : l.first ≤ length l.batches;
  inside : l.low ≤ l.nodes;
  each : All (IsRange l.code l.batches) l.shares.items;
  line : JoinTo 0 l.shares.items l.low;
  covered : (i : ℕ) → i < l.first → (s : ℕ) × IsShared l.shares.items i s;
}

abbrev pub decreases-loop-first : goal.decreases-loop-first
decreases-loop-first l = length l.batches - l.first

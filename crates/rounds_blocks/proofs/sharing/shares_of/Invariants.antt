use Rattle.std.proofs.Common.{◌<◌, ◌≤◌, ◌-◌, ℕ, All, length}
use Rattle.rounds_blocks.specs.Rounds.{HaveWords}
use Rattle.rounds_blocks.specs.Walks.{IsShare, IsShared}
use Rattle.rounds_blocks.proofs.sharing.shares_of.Given as goal

-- the first batches are shared
abbrev pub invariant-loop-first : goal.invariant-loop-first
invariant-loop-first l = record {
  few : l.first ≤ length l.batches;
  each : (nodes : ℕ) → HaveWords nodes l.columns → All (IsShare l.code nodes (length l.batches)) l.shares.items;
  covered : (i : ℕ) → i < l.first → (s : ℕ) × IsShared l.shares.items i s;
}

abbrev pub decreases-loop-first : goal.decreases-loop-first
decreases-loop-first l = length l.batches - l.first

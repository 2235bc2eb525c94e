use Rattle.std.proofs.Common.{◌<◌, ◌≤◌, ℕ, All, slice_index_or}
use Rattle.rounds_blocks.specs.declared.batch.Batch.{Batch}
use Rattle.rounds_blocks.specs.Spans.{IsInside}
use Rattle.rounds_blocks.proofs.spans.batches_inside.Given as goal

-- the nodes of the first batches are in the range
abbrev pub invariant-loop-at : goal.invariant-loop-at
invariant-loop-at l = (i : ℕ) (d : Batch) → l.first ≤ i → i < l.at → All (IsInside l.low l.high) (slice_index_or l.batches i d).nodes

use Rattle.std.proofs.Common.{length, ◌-◌, ◌≡◌, ◌<◌, ◌≤◌, ℕ, All, slice_index_or}
use Rattle.rounds_blocks.specs.declared.batch.Batch.{Batch}
use Rattle.rounds_blocks.specs.Spans.{IsInside}
use Rattle.rounds_blocks.proofs.node_ranges.next_range.Given as goal

-- the batches up to here have only nodes of the range up to here
abbrev pub invariant-loop-range : goal.invariant-loop-range
invariant-loop-range l = record {
  some : l.first ≤ l.range.behind;
  few : l.range.behind ≤ length l.batches;
  begins : l.range.low ≡ l.low;
  order : l.low ≤ l.range.high;
  inside : l.range.high ≤ l.nodes;
  only : (i : ℕ) (d : Batch) → l.first ≤ i → i < l.range.behind → All (IsInside l.low l.range.high) (slice_index_or l.batches i d).nodes;
}

abbrev pub decreases-loop-range : goal.decreases-loop-range
decreases-loop-range l = length l.spans - l.range.behind

use Rattle.std.proofs.Common.{◌<◌, ℕ, slice_index_or}
use Rattle.rounds_blocks.specs.Spans.{IsInside}
use Rattle.rounds_blocks.proofs.spans.are_inside.Given as goal

-- the first nodes are in the range
abbrev pub invariant-loop-node : goal.invariant-loop-node
invariant-loop-node l = (k d : ℕ) → k < l.node-index → IsInside l.low l.high (slice_index_or l.nodes k d)

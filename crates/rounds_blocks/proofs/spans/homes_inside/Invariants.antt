use Rattle.std.proofs.Common.{◌<◌, ◌≤◌, ℕ, slice_index}
use Rattle.rounds_blocks.specs.Spans.{IsInside}
use Rattle.rounds_blocks.proofs.spans.homes_inside.Given as goal

-- the first nodes of the range stand in the batches
abbrev pub invariant-loop-node : goal.invariant-loop-node
invariant-loop-node l = (u : ℕ) → l.low ≤ u → u < l.node → IsInside l.first l.behind (slice_index l.homes u)

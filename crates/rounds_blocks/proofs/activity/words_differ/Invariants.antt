use Rattle.std.proofs.Common.{◌≡◌, ◌<◌, ℕ, slice_index, slice_index_or}
use Rattle.rounds_blocks.proofs.activity.words_differ.Given as goal

-- the first nodes have the same words
abbrev pub invariant-loop-node : goal.invariant-loop-node
invariant-loop-node l = (p d : ℕ) → p < l.node-index → slice_index l.left (slice_index_or l.nodes p d) ≡ slice_index l.right (slice_index_or l.nodes p d)

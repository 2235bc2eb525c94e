use Rattle.std.proofs.Common.{◌<◌, ℕ, All, slice_index_or}
use Rattle.rounds_blocks.specs.Rounds.{HasWordInside}
use Rattle.rounds_blocks.proofs.copying.copy_nodes.Given as goal

-- the first nodes have their words
abbrev pub invariant-loop-node : goal.invariant-loop-node
invariant-loop-node l = record {
  copied : (word : ℕ → ℕ) → All (HasWordInside l.low word l.source) l.nodes → (i d : ℕ) → i < l.node-index → HasWordInside l.low word l.part (slice_index_or l.nodes i d);
  kept : (word : ℕ → ℕ) (u : ℕ) → All (HasWordInside l.low word l.source) l.nodes → HasWordInside l.low word l.initial.part u → HasWordInside l.low word l.part u;
}

use Rattle.std.proofs.Common.{◌≡◌, ◌<◌, ◌⊎◌, ℕ, slice_index, slice_index_or}
use Rattle.std.specs.List.{Contains}
use Rattle.rounds_blocks.proofs.near.settle.Given as goal

-- the first nodes are settled, and nothing else changed
abbrev pub invariant-loop-node : goal.invariant-loop-node
invariant-loop-node l = record {
  here : (p d : ℕ) → p < l.node-index → slice_index l.homes (slice_index_or l.nodes p d) ≡ l.batch;
  others : (u : ℕ) → (slice_index l.homes u ≡ slice_index l.initial.homes u) ⊎ ((slice_index l.homes u ≡ l.batch) × Contains l.nodes u);
}

use Rattle.std.proofs.Common.{◌≡◌, ◌<◌, ◌≤◌, ℕ, All, length, slice_index, slice_index_or}
use Rattle.std.specs.List.{Contains}
use Rattle.rounds_blocks.specs.Nears.{IsStamped}
use Rattle.rounds_blocks.proofs.near.list_homes.Given as goal

-- the homes of the first nodes are listed
abbrev pub invariant-loop-node : goal.invariant-loop-node
invariant-loop-node l = record {
  count : length l.stamps ≡ length l.initial.stamps;
  within : All (λ i. i < length l.stamps) l.places.items;
  low : (i : ℕ) → slice_index l.stamps i ≤ l.stamp;
  listed : (i : ℕ) → IsStamped l.stamps l.stamp i → Contains l.places.items i;
  stamped : (p d : ℕ) → p < l.node-index → IsStamped l.stamps l.stamp (slice_index l.homes (slice_index_or l.nodes p d));
  kept : (i : ℕ) → IsStamped l.initial.stamps l.stamp i → IsStamped l.stamps l.stamp i;
  more : length l.initial.places.items ≤ length l.places.items;
}

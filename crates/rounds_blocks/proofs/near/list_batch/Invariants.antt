use Rattle.std.proofs.Common.{◌≡◌, ◌<◌, ◌≤◌, ℕ, All, length, slice_index, slice_index_or}
use Rattle.std.specs.List.{Contains}
use Rattle.rounds_code.specs.declared.slot.Slot.{Slot}
use Rattle.rounds_blocks.specs.Nears.{IsStamped}
use Rattle.rounds_blocks.proofs.near.list_batch.Given as goal

-- the homes of the batch's nodes, and of the neighbours in its first slots, are listed
abbrev pub invariant-loop-slot : goal.invariant-loop-slot
invariant-loop-slot l = record {
  count : length l.stamps ≡ length l.initial.stamps;
  within : All (λ i. i < length l.stamps) l.places.items;
  low : (i : ℕ) → slice_index l.stamps i ≤ l.stamp;
  listed : (i : ℕ) → IsStamped l.stamps l.stamp i → Contains l.places.items i;
  own : length l.places.items ≤ 256 → All (λ u. IsStamped l.stamps l.stamp (slice_index l.homes u)) l.batch.nodes;
  slots : length l.places.items ≤ 256 → (j : ℕ) (d : Slot) → j < l.slot-index → All (λ u. IsStamped l.stamps l.stamp (slice_index l.homes u)) (slice_index_or l.batch.slots.items j d).neighbours;
}

use Rattle.std.proofs.Common.{◌≡◌, ◌<◌, ℕ, length, slice_index_or}
use Rattle.rounds_code.specs.declared.slot.Slot.{Slot}
use Rattle.rounds_blocks.specs.Batches.{IsSlot}
use Rattle.rounds_blocks.proofs.batch.batch_of.Given as goal

-- the first slots are made
abbrev pub invariant-loop-slot : goal.invariant-loop-slot
invariant-loop-slot l = record {
  count : length l.slots.items ≡ l.slot;
  made : (j : ℕ) (d : Slot) → j < l.slot → IsSlot l.network l.nodes j (slice_index_or l.slots.items j d);
}

use Rattle.std.proofs.Common.{◌≡◌, ◌<◌, ◌≤◌, ℕ, All, length, slice_index, slice_index_or}
use Rattle.rounds_blocks.specs.declared.batch.Batch.{Batch}
use Rattle.rounds_blocks.specs.declared.near.Near.{Near}
use Rattle.rounds_blocks.specs.Nears.{AreNear, IsWithin}
use Rattle.rounds_blocks.proofs.near.nears_of.Given as goal

-- the first batches have those near them, and no stamp is greater than their number
abbrev pub invariant-loop-i : goal.invariant-loop-i
invariant-loop-i l = record {
  many : length l.stamps.items ≡ length l.batches;
  low : (k : ℕ) → slice_index l.stamps.items k ≤ l.i;
  count : length l.nears.items ≡ l.i;
  within : All (IsWithin (length l.batches)) l.nears.items;
  each : (i : ℕ) (d : Batch) (e : Near) → i < l.i → AreNear l.network l.batches (slice_index_or l.batches i d) (slice_index_or l.nears.items i e);
}

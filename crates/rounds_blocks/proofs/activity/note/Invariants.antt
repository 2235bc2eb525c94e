use Rattle.std.proofs.Common.{◌≡◌, ◌<◌, ℕ, All, false, true, slice_index_or}
use Rattle.rounds_blocks.specs.declared.batch.Batch.{Batch}
use Rattle.rounds_blocks.specs.Nears.{IsDue, Sleeps}
use Rattle.rounds_blocks.specs.Walks.{HasMoved, IsAsBefore}
use Rattle.rounds_blocks.proofs.activity.note.Given as goal

-- the first batches are noted
abbrev pub invariant-loop-i : goal.invariant-loop-i
invariant-loop-i l = record {
  noted : (j : ℕ) (d : Batch) → j < l.i → Sleeps l.changed j → IsDue l.due j → All (IsAsBefore l.from l.to) (slice_index_or l.batches j d).nodes;
  some : l.moved ≡ true → HasMoved l.batches l.from l.to;
  none : l.moved ≡ false → (j : ℕ) → j < l.i → Sleeps l.changed j;
}

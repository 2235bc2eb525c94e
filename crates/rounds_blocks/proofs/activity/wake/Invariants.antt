use Rattle.std.proofs.Common.{◌<◌, ℕ, slice_index_or}
use Rattle.rounds_blocks.specs.declared.near.Near.{Near}
use Rattle.rounds_blocks.specs.Nears.{SleepNear, Sleeps}
use Rattle.rounds_blocks.proofs.activity.wake.Given as goal

-- of the first batches those that sleep have none near them that changed
abbrev pub invariant-loop-i : goal.invariant-loop-i
invariant-loop-i l = (j : ℕ) (d : Near) → j < l.i → Sleeps l.due j → SleepNear l.changed (slice_index_or l.nears j d)

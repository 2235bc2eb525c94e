use Rattle.std.proofs.Common.{◌<◌, ℕ, slice_index_or}
use Rattle.rounds_blocks.specs.Nears.{Sleeps}
use Rattle.rounds_blocks.proofs.activity.is_any_changed.Given as goal

-- the first of them did not change
abbrev pub invariant-loop-batch : goal.invariant-loop-batch
invariant-loop-batch l = (p d : ℕ) → p < l.batch-index → Sleeps l.changed (slice_index_or l.places p d)

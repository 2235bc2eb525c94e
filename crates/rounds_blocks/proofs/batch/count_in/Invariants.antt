use Rattle.std.proofs.Common.{◌<◌, ℕ, slice_index}
use Rattle.rounds_blocks.proofs.batch.count_in.Given as goal

-- the first i have a neighbour there
abbrev pub invariant-loop-i : goal.invariant-loop-i
invariant-loop-i l = (k : ℕ) → k < l.i → l.slot < slice_index l.degrees k

use Rattle.std.proofs.Common.{◌<◌, ◌≤◌, ℕ}
use Rattle.rounds_blocks.specs.Nears.{IsDue}
use Rattle.rounds_blocks.proofs.copying.are_due.Given as goal

-- the first batches were computed
abbrev pub invariant-loop-at : goal.invariant-loop-at
invariant-loop-at l = (i : ℕ) → l.first ≤ i → i < l.at → IsDue l.due i

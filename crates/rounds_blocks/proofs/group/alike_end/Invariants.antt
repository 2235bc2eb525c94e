use Rattle.rounds_blocks.specs.Batches.{AreAlike}
use Rattle.rounds_blocks.proofs.group.alike_end.Given as goal

-- the slots so far are alike
abbrev pub invariant-loop-place : goal.invariant-loop-place
invariant-loop-place l = AreAlike l.slots l.at l.place l.count

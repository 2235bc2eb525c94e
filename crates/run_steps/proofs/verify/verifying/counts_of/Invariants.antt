use Rattle.std.proofs.Common.{◌≡◌, take}
use Rattle.run_steps.proofs.verify.verifying.counts_of.Given as goal

abbrev pub invariant-loop-node : goal.invariant-loop-node
invariant-loop-node l = l.counts.items ≡ take l.node l.world.counts.moves

use Rattle.std.proofs.Common.{◌≡◌, min, drop}
use Rattle.std.specs.List.{fold}
use Rattle.run_steps.specs.explain.Differences.{least_of}
use Rattle.run_steps.proofs.explain.differences.least_count.Given as goal

abbrev pub invariant-loop-node : goal.invariant-loop-node
invariant-loop-node l = fold min l.least (drop l.node l.world.counts.moves) ≡ least_of l.world.counts.moves

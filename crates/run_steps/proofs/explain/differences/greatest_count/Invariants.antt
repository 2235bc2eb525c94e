use Rattle.std.proofs.Common.{◌≡◌, max, drop}
use Rattle.std.specs.List.{fold}
use Rattle.run_steps.specs.explain.Differences.{greatest_of}
use Rattle.run_steps.proofs.explain.differences.greatest_count.Given as goal

abbrev pub invariant-loop-node : goal.invariant-loop-node
invariant-loop-node l = fold max l.greatest (drop l.node l.world.counts.moves) ≡ greatest_of l.world.counts.moves

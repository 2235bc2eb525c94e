use Rattle.std.proofs.Common.{◌≡◌, map}
use Rattle.run_cuts.specs.Counting.{after_all}
use Rattle.run_cuts.proofs.Noted.{at_first}
use Rattle.run_cuts.proofs.steps.count_step.Given as goal

abbrev pub invariant-loop-node : goal.invariant-loop-node
invariant-loop-node l = l.counted ≡ map (after_all (at_first l.plan l.round l.node)) l.initial.counted

use Rattle.rounds_plan.specs.Compare.{AgreeBelow}
use Rattle.rounds_plan.proofs.difference.compare.Given as goal

abbrev pub invariant-loop-node : goal.invariant-loop-node
invariant-loop-node l = AgreeBelow l.node l.left.fields l.left.states l.right.states

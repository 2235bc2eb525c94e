use Rattle.std.proofs.Common.{◌≡◌, ◌++◌, drop}
use Rattle.rounds_plan.specs.Lockstep.{state_in}
use Rattle.run_naive.specs.Keeping.{nears_from}
use Rattle.run_naive.proofs.opening.desk_of.Given as goal

abbrev pub invariant-loop-slot : goal.invariant-loop-slot
invariant-loop-slot l =
    l.desk.items ++ nears_from (state_in l.plan.opening) (drop l.slot l.neighbours) (drop l.slot l.weights) ≡ nears_from (state_in l.plan.opening) l.neighbours l.weights

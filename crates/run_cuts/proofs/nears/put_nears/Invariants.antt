use Rattle.std.proofs.Common.{◌≡◌, ◌+◌, ◌++◌, drop, length}
use Rattle.rounds_plan.specs.Lockstep.{state_in}
use Rattle.run_cuts.specs.Counting.{nears_from}
use Rattle.run_cuts.proofs.nears.put_nears.Given as goal

abbrev pub invariant-loop-slot : goal.invariant-loop-slot
invariant-loop-slot l = record {
  rest : l.nears.items ++ nears_from (state_in l.states) (drop l.slot l.neighbours) (drop l.slot l.weights) ≡ l.initial.nears.items ++ nears_from (state_in l.states) l.neighbours l.weights;
  count : length l.nears.items ≡ length l.initial.nears.items + l.slot;
}

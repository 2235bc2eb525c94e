use Rattle.std.proofs.Common.{◌≡◌, ◌++◌, Some, drop, map, take}
use Rattle.rounds_plan.specs.Opening.{with_value}
use Rattle.rounds_walk.proofs.initial.fill.Given as goal

abbrev pub invariant-loop-state : goal.invariant-loop-state
invariant-loop-state l = l.states ≡ map (with_value l.field (Some l.value)) (take l.state-index l.initial.states) ++ drop l.state-index l.initial.states

use Rattle.rounds_walk.specs.Walking.{GoesOn}
use Rattle.rounds_walk.proofs.way.walk_to.Given as goal

abbrev pub invariant-loop-round : goal.invariant-loop-round
invariant-loop-round g l = GoesOn l.from l.round l.initial.walk l.walk

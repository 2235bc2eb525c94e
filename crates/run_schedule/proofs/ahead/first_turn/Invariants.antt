use Rattle.std.proofs.Common.{◌++◌, ◌∷◌, []}
use Rattle.unison_world.specs.Counting.{moves_of}
use Rattle.run_schedule.specs.Leading.{AreTurns}
use Rattle.run_schedule.proofs.ahead.first_turn.Given as goal

abbrev pub invariant-waits : goal.invariant-waits
invariant-waits l = AreTurns l.walk.world l.node (l.turns.items ++ l.first ∷ [])

abbrev pub decreases-waits : goal.decreases-waits
decreases-waits l = moves_of l.walk.world.counts l.first.node

use Rattle.std.proofs.Common.{◌-◌, length}
use Rattle.run_schedule.specs.Leading.{AreTurns, StaysAhead}
use Rattle.run_schedule.specs.Walks.{GoesOn}
use Rattle.run_schedule.proofs.ahead.lead.Given as goal

abbrev pub invariant-steps : goal.invariant-steps
invariant-steps l =
    record {
      goes : GoesOn l.initial.walk l.walk;
      turns : AreTurns l.walk.world l.node l.turns.items;
      stays : StaysAhead l.walk.world.plan l.walk.world.stop l.node l.walk.steps;
    }

abbrev pub decreases-steps : goal.decreases-steps
decreases-steps l = l.walk.limit - length l.walk.steps

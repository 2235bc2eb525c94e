use Rattle.std.proofs.Common.{◌-◌, length}
use Rattle.run_schedule.specs.Daemons.{HasMoved}
use Rattle.run_schedule.specs.Walks.{GoesOn}
use Rattle.run_schedule.proofs.driving.drive.Given as goal

abbrev pub invariant-groups : goal.invariant-groups
invariant-groups l =
    record {
      goes : GoesOn l.initial.walk l.walk;
      moved : HasMoved l.walk l.daemon;
    }

abbrev pub decreases-groups : goal.decreases-groups
decreases-groups l = l.walk.limit - length l.walk.steps

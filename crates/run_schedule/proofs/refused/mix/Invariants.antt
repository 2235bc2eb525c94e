use Rattle.std.proofs.Common.{◌≡◌, ◌<◌, ◌≤◌, length, take}
use Rattle.std.specs.List.{All}
use Rattle.unison_trace.specs.Histories.{run_of}
use Rattle.run_schedule.specs.Mixing.{AreAmong, HasLink, IsLinked, changing_of}
use Rattle.run_schedule.proofs.refused.mix.Given as goal

abbrev pub invariant-loop-step : goal.invariant-loop-step
invariant-loop-step l =
    record {
      plan : l.world.plan ≡ l.initial.world.plan;
      stop : l.world.stop ≡ l.initial.world.stop;
      linked : All (IsLinked l.world.plan.network) l.linked.items;
      some : HasLink l.world.plan.network → 0 < length l.linked.items;
      few : length l.mixed.items ≤ l.limit;
      among : AreAmong l.world.plan l.world.stop l.percent (take l.step-index l.steps) l.mixed.items;
      arrives : run_of l.world.plan l.world.stop l.mixed.items ≡ l.world.counts;
      first : run_of l.world.plan l.world.stop (take l.step-index l.steps) ≡ l.world.counts;
      same : changing_of l.world.plan l.world.stop l.mixed.items ≡ changing_of l.world.plan l.world.stop (take l.step-index l.steps);
    }

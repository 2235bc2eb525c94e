use Rattle.std.proofs.Common.{◌≡◌, ◌≤◌, ◌-◌, length, take}
use Rattle.std.specs.List.{repeat}
use Rattle.run_schedule.specs.Sweeps.{sweep_of}
use Rattle.run_schedule.proofs.sweeps.swept.Given as goal

abbrev pub invariant-loop-round : goal.invariant-loop-round
invariant-loop-round l =
    record {
      few : length l.steps.items ≤ l.limit;
      put : l.steps.items ≡ take l.limit (repeat (l._round - l.plan.start) (sweep_of l.plan.network));
    }

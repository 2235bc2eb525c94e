use Rattle.std.proofs.Common.{◌≡◌, ◌≤◌, ◌++◌, length, take}
use Rattle.std.specs.List.{range_with_len, flat_map}
use Rattle.run_schedule.specs.Sweeps.{turn_of}
use Rattle.run_schedule.proofs.sweeps.put_sweep.Given as goal

abbrev pub invariant-loop-node : goal.invariant-loop-node
invariant-loop-node l =
    record {
      few : length l.steps.items ≤ l.limit;
      put : l.steps.items ≡ take l.limit (l.initial.steps.items ++ flat_map (turn_of l.network) (range_with_len 0 l.node));
    }

use Rattle.std.proofs.Common.{◌≡◌, ◌≤◌, ◌++◌, length}
use Rattle.std.specs.List.{repeat, slice_range}
use Rattle.run_steps.proofs.script.put.push_again.Given as goal

abbrev pub invariant-loop-time : goal.invariant-loop-time
invariant-loop-time l =
    record {
      end : l.end ≤ length l.steps.items;
      put : l.steps.items ≡ l.initial.steps.items ++ repeat l._time (slice_range l.initial.steps.items l.start l.end);
    }

use Rattle.std.proofs.Common.{◌≡◌, ◌≤◌, ◌++◌, length}
use Rattle.std.specs.List.{range_with_len, flat_map}
use Rattle.unison_trace.specs.Histories.{most_steps}
use Rattle.run_steps.specs.script.Texts.{turn_of}
use Rattle.run_steps.proofs.script.put.put_sweep.Given as goal

abbrev pub invariant-loop-node : goal.invariant-loop-node
invariant-loop-node l =
    record {
      few : length l.steps.items ≤ most_steps;
      put : l.steps.items ≡ l.initial.steps.items ++ flat_map (turn_of l.network) (range_with_len 0 l.node);
    }

use Rattle.std.proofs.Common.{◌≡◌, ◌≤◌, ◌++◌, length, map, take}
use Rattle.std.specs.List.{range_with_len}
use Rattle.unison_world.specs.declared.step.Step.TheVariants.{Read}
use Rattle.run_schedule.proofs.sweeps.put_turn.Given as goal

abbrev pub invariant-loop-slot : goal.invariant-loop-slot
invariant-loop-slot l =
    record {
      few : length l.steps.items ≤ l.limit;
      put : l.steps.items ≡ take l.limit (l.initial.steps.items ++ map (λ j. Read l.node j) (range_with_len 0 l.slot));
    }

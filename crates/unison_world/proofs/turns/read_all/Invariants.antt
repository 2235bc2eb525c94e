use Rattle.std.proofs.Common.{◌≡◌, ◌≤◌, ◌+◌, map}
use Rattle.std.specs.List.{range_with_len}
use Rattle.unison_world.specs.Counting.{run, InStep}
use Rattle.unison_world.specs.Progress.{steps_done}
use Rattle.unison_world.specs.Pictures.{counts_of, IsDrawn}
use Rattle.unison_world.specs.declared.step.Step.TheVariants.{Read}
use Rattle.unison_world.proofs.turns.read_all.Given as goal

abbrev pub invariant-loop-slot : goal.invariant-loop-slot
invariant-loop-slot l =
    record {
      counts : counts_of l.nodes.items ≡ run l.plan.network l.stop (counts_of l.initial.nodes.items) (map (λ j. Read l.node j) (range_with_len 0 l.slot));
      drawn : IsDrawn l.plan l.nodes.items;
      in_step : InStep l.plan.network l.stop (counts_of l.nodes.items);
      steps : steps_done l.plan.network (counts_of l.nodes.items) ≡ steps_done l.plan.network (counts_of l.initial.nodes.items) + l.taken;
      few : l.taken ≤ l.slot;
    }

use Rattle.std.proofs.Common.{◌≡◌, ℕ, ◌+◌, ◌-◌, ◌*◌, ◌≤◌, ◌<◌, length}
use Rattle.unison_world.specs.Counting.{moves_of, InStep}
use Rattle.unison_world.specs.Progress.{steps_done}
use Rattle.unison_world.specs.Pictures.{counts_of, IsDrawn}
use Rattle.unison_world.proofs.turns.run_sweeps.Given as goal

abbrev pub invariant-loop-round : goal.invariant-loop-round
invariant-loop-round l =
    record {
      least : (u : ℕ) → u < length l.plan.network → l._round ≤ moves_of (counts_of l.nodes.items) u;
      steps : steps_done l.plan.network (counts_of l.nodes.items) ≡ steps_done l.plan.network (counts_of l.initial.nodes.items) + l.steps;
      few : l.steps ≤ (l._round - l.least) * 268500992;
      drawn : IsDrawn l.plan l.nodes.items;
      in_step : InStep l.plan.network l.stop (counts_of l.nodes.items);
    }

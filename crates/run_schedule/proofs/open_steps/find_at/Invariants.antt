use Rattle.std.proofs.Common.{◌≡◌, ℕ, ◌<◌, [], true, false}
use Rattle.std.specs.List.{All}
use Rattle.unison_world.specs.declared.step.Step.TheVariants.{Read}
use Rattle.run_schedule.specs.Walks.{is_open}
use Rattle.run_schedule.proofs.open_steps.find_at.Given as goal

abbrev pub invariant-loop-slot : goal.invariant-loop-slot
invariant-loop-slot l =
    record {
      opens : All (λ step. is_open l.walk step ≡ true) l.initial.found.items → All (λ step. is_open l.walk step ≡ true) l.found.items;
      none : l.found.items ≡ [] → (l.initial.found.items ≡ []) × ((j : ℕ) → j < l.slot → is_open l.walk (Read l.node j) ≡ false);
    }

-- Previous states before any step.
use Rattle.std.proofs.Common.{◌≡◌, ◌∙◌, ◌-◌, List, length, slice_index_or, sym, ap}
use Rattle.rule_check.specs.declared.state.State.{State}
use Rattle.rounds_plan.specs.Configs.{blank}
use Rattle.rounds_plan.specs.Starts.{IsSimplePlan}
use Rattle.rounds_plan.specs.Lockstep.{lockstep, lockstep-start}
use Rattle.unison_world.specs.Counting.{moves_of}
use Rattle.unison_world.specs.View.{WorldView, opened}
use Rattle.unison_world.proofs.Starts.{lockstep-early}
use Rattle.unison_world.proofs.Steps.{moves-at_start}
use Rattle.run_steps.specs.Previous.{HasPrevious}

-- before any step the previous states are the initial ones
pub previous-opened : (w : WorldView) (states : List State) → w ≡ opened w.plan w.stop → IsSimplePlan w.plan → states ≡ w.plan.opening → HasPrevious w states
previous-opened w states is plan same =
    let p = w.plan in
    record {
      one_each = ap length same ∙ plan.opening;
      each = λ u less. (
          let count : moves_of w.counts u ≡ p.start = ap (λ (x : WorldView). moves_of x.counts u) is ∙ moves-at_start p.network p.start u less in
          ap (λ (xs : List State). slice_index_or xs u blank) same ∙ sym (lockstep-start p u) ∙ sym (lockstep-early p u) ∙ ap (λ t. lockstep p (t - 1) u) (sym count));
    }

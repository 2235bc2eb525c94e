-- A move by the right copies.
use Rattle.std.proofs.Common.{◌≡◌, ◌∙◌, ap, sym}
use Rattle.rule_check.specs.declared.state.State.{State}
use Rattle.rule_check.specs.Value.{next_state}
use Rattle.rounds_plan.specs.Lockstep.{lockstep, lockstep-more}
use Rattle.run_naive.specs.Differences.{RightCopiesKeepTheRound}

pub right_copies : RightCopiesKeepTheRound
right_copies p u n late state desk =
    ap (λ (s : State). next_state p.program n.moves u s n.desk) state
    ∙ ap (next_state p.program n.moves u (lockstep p n.moves u)) desk
    ∙ sym (lockstep-more p n.moves u late)

-- Plans that go on from the states of a round.
use Rattle.std.specs.Prelude.{◌≡◌, ◌≤◌, ℕ, length}
use Rattle.rounds_plan.specs.Lockstep.{lockstep_states}
use Rattle.rounds_plan.specs.Plans.{PlanView}
use Rattle.rounds_plan.specs.Starts.{IsStart}

-- Where a plan has the program and the rows of another, and opens with the states that this one has after a round, at this round, both have the same states after every later round.
abbrev pub GoesOnFromStates : Type 0
GoesOnFromStates = (old new : PlanView) (t : ℕ) → IsStart old → new.program ≡ old.program → new.network ≡ old.network
    → old.start ≤ new.start → new.opening ≡ lockstep_states old new.start (length old.network)
    → new.start ≤ t → lockstep_states new t (length new.network) ≡ lockstep_states old t (length old.network)

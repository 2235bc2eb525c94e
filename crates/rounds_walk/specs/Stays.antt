-- Where a round changes nothing. The network are rows of any size.
use Rattle.std.specs.Prelude.{ℕ, ◌≡◌, ◌<◌, ◌≤◌, ◌+◌, false, length}
use Rattle.rule_check.specs.Rounds.{reads_round}
use Rattle.link_net.specs.Neighbours.{AreRows, degree, neighbour}
use Rattle.rounds_plan.specs.Lockstep.{lockstep, lockstep_states}
use Rattle.rounds_plan.specs.Plans.{PlanView}

-- Where the program does not read the number of the round, and the states after round t + 1 are those after round t, they are those after every later round.
abbrev pub StaysAsItIs : Type 0
StaysAsItIs = (p : PlanView) (t later : ℕ) → AreRows p.network → reads_round p.program ≡ false → p.start ≤ t
    → lockstep_states p (t + 1) (length p.network) ≡ lockstep_states p t (length p.network)
    → t ≤ later → lockstep_states p later (length p.network) ≡ lockstep_states p t (length p.network)

-- Where the program does not read the number of the round, and neither a node nor a neighbour of it changed in the step from round t, the node does not change in the next step.
abbrev pub RestsWhereNothingMoved : Type 0
RestsWhereNothingMoved = (p : PlanView) (t u : ℕ) → reads_round p.program ≡ false → p.start ≤ t
    → lockstep p (t + 1) u ≡ lockstep p t u
    → ((j : ℕ) → j < degree p.network u → lockstep p (t + 1) (neighbour p.network u j) ≡ lockstep p t (neighbour p.network u j))
    → lockstep p (t + 2) u ≡ lockstep p (t + 1) u

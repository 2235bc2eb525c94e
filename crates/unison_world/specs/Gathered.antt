-- The aggregates over the neighbours that were read so far.
use Rattle.std.specs.Prelude.{ℕ, Bool, List, [], ◌∷◌, if◌then◌else◌}
use Rattle.rule_check.specs.declared.state.State.{State}
use Rattle.rule_check.specs.declared.state.Near.{Near}
use Rattle.rule_check.specs.declared.state.Sums.{Sums}
use Rattle.rule_check.specs.Value.{here_at}
use Rattle.rule_check.specs.Gathering.{sums_at}
use Rattle.link_net.specs.Neighbours.{row, degree}
use Rattle.rounds_plan.specs.Plans.{PlanView}
use Rattle.rounds_plan.specs.Lockstep.{near_at, lockstep}

-- the neighbours at the marked slots by rising slot, as a rule sees them with the states that `at` gives
abbrev pub marked_nears : (ℕ → State) → List (ℕ × ℕ) → List Bool → List Near
marked_nears at [] marks = []
marked_nears at (a ∷ row) [] = []
marked_nears at (a ∷ row) (mark ∷ marks) = if mark then near_at at a ∷ marked_nears at row marks else marked_nears at row marks

-- the aggregates of node u in the step from a round, with its whole degree, over these neighbours
abbrev pub sums_of_round : PlanView → ℕ → ℕ → List Near → Sums
sums_of_round plan u round nears = sums_at plan.program (here_at plan.program round u (degree plan.network u) (lockstep plan round u) nears)

-- those over the neighbours at the marked slots, with their lockstep states of that round
abbrev pub gathered_sums : PlanView → ℕ → ℕ → List Bool → Sums
gathered_sums plan u round marks = sums_of_round plan u round (marked_nears (lockstep plan round) (row plan.network u) marks)

-- The states that steps show, and whether given values are theirs.
use Rattle.std.specs.Prelude.{◌≡◌, ◌≢◌, ℕ, ◌+◌, ◌<◌, List, [], ◌∷◌, slice_index, Some}
use Rattle.link_net.specs.Neighbours.{Neighbours, neighbour}
use Rattle.rule_check.specs.declared.state.State.{State}
use Rattle.rounds_plan.specs.Configs.{most_rounds}
use Rattle.rounds_plan.specs.Plans.{PlanView}
use Rattle.rounds_plan.specs.Lockstep.{lockstep}
use Rattle.unison_world.specs.declared.step.Step.{Step}
use Rattle.unison_world.specs.declared.step.Step.TheVariants.{Read, Write}
use Rattle.unison_world.specs.Counting.{Counts, moves_of, after}
use Rattle.run_steps.specs.declared.verify.entry.Entry.{Entry}
use Rattle.run_steps.specs.declared.verify.entry.Given.{Given}
use Rattle.run_steps.specs.verify.Given.{value_given}

-- the node that makes a step
abbrev pub mover : Step → ℕ
mover (Read u j) = u
mover (Write u) = u

-- whose state a step shows: the neighbour's that is read, or the node's that moves
abbrev pub shown_node : Neighbours → Step → ℕ
shown_node network (Read u j) = neighbour network u j
shown_node network (Write u) = u

-- after which round, by the counts before the step: as many as the node that reads has moved; one more than the node that moves has moved
abbrev pub shown_round : Counts → Step → ℕ
shown_round c (Read u j) = moves_of c u
shown_round c (Write u) = moves_of c u + 1

-- the state that a step shows: that node's lockstep state after that round
abbrev pub shown_state : PlanView → Counts → Step → State
shown_state plan c step = lockstep plan (shown_round c step) (shown_node plan.network step)

-- each value that is given is the state's
abbrev pub Agrees : Given → State → Type 0
Agrees given state = (k v : ℕ) → k < 8 → value_given given k ≡ Some v → slice_index state.words k ≡ v

-- the first field whose value is given and is not the state's
pub record DiffersFirst (given : Given) (state : State) (field value : ℕ) : Type 0 where
  pub place : field < 8
  pub is_given : value_given given field ≡ Some value
  pub other : slice_index state.words field ≢ value
  pub first : (k v : ℕ) → k < field → value_given given k ≡ Some v → slice_index state.words k ≡ v

-- the values that entries give are those of the states that their steps show, one after another
abbrev pub AllAgree : PlanView → Counts → List Entry → Type 0
AllAgree plan c [] = Unit {0}
AllAgree plan c (e ∷ entries) = Agrees e.given (shown_state plan c e.step) × AllAgree plan (after plan.network most_rounds c e.step) entries

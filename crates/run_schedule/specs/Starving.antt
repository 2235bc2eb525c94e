-- Lists of steps of all nodes but one.
use Rattle.std.specs.Prelude.{◌≡◌, ◌≢◌, ℕ, ◌+◌, ◌<◌, min, List, length, All}
use Rattle.rounds_plan.specs.Plans.{PlanView}
use Rattle.unison_world.specs.declared.step.Step.{Step}
use Rattle.unison_world.specs.Counting.{Counts, moves_of}
use Rattle.unison_trace.specs.Histories.{run_of}
use Rattle.run_schedule.specs.Lists.{IsStepList, node_of}
use Rattle.run_schedule.specs.Ways.{IsDistance, IsWay}

-- a node's count where one node never moved: its distance from it after the start, but no more than the stop
pub record IsHeldBack (plan : PlanView) (stop : ℕ) (counts : Counts) (node u : ℕ) : Type 0 where
  pub near : (n : ℕ) → IsDistance plan.network n u node → moves_of counts u ≡ min stop (plan.start + n)
  pub apart : ((n : ℕ) → IsWay plan.network n u node → ⊥) → moves_of counts u ≡ stop

-- no step is the node's, and the list goes on to the limit, or until every other node is held back
pub record StarvesNode (plan : PlanView) (stop node limit : ℕ) (steps : List Step) : Type 0 where
  pub list : IsStepList plan stop limit steps
  pub others : All (λ step. node_of step ≢ node) steps
  pub stays : moves_of (run_of plan stop steps) node ≡ plan.start
  pub rest : length steps < limit → (u : ℕ) → u < length plan.network → IsHeldBack plan stop (run_of plan stop steps) node u

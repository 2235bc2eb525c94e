-- Lists of steps that each change something.
use Rattle.std.specs.Prelude.{◌≡◌, ℕ, ◌≤◌, min, List, length, Option, Some, None}
use Rattle.rounds_plan.specs.Plans.{PlanView}
use Rattle.unison_world.specs.declared.step.Step.{Step}
use Rattle.unison_world.specs.declared.step.Step.TheVariants.{Read, Write}
use Rattle.unison_trace.specs.Histories.{LeadTo, most_steps, run_of}
use Rattle.unison_trace.specs.Traces.{IsWholeTrace, needed}

-- how many steps a list may have: so many as are asked, but no more than a schedule may have
abbrev pub limit_of : Option ℕ → ℕ
limit_of None = most_steps
limit_of (Some count) = min count most_steps

-- the node that makes the step
abbrev pub node_of : Step → ℕ
node_of (Read node slot) = node
node_of (Write node) = node

-- from the plan's opening on each step is answered Taken or Moved, and there are no more than the limit
pub record IsStepList (plan : PlanView) (stop limit : ℕ) (steps : List Step) : Type 0 where
  pub leads : LeadTo plan stop (run_of plan stop steps) steps
  pub few : length steps ≤ limit

-- such a list that goes on to the limit, or until every node stands at the stop
pub record GoesToStop (plan : PlanView) (stop limit : ℕ) (steps : List Step) : Type 0 where
  pub list : IsStepList plan stop limit steps
  pub count : length steps ≡ min limit (needed plan stop)
  pub whole : needed plan stop ≤ limit → IsWholeTrace plan stop steps

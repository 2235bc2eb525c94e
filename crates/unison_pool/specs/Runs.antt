-- What a run answers.
use Rattle.std.specs.Prelude.{ℕ, List, Option, Some, None, ⊤}
use Rattle.rounds_plan.specs.Plans.{PlanView}
use Rattle.unison_world.specs.declared.step.Step.{Step}
use Rattle.unison_trace.specs.Traces.{IsWholeTrace}

-- a trace is there exactly where one was asked; its steps lead from the start to all counts at the stop, each is answered Taken or Moved, and there are exactly as many as it takes
abbrev pub IsTrace : PlanView → ℕ → Option ℕ → Option (List Step) → Type 0
IsTrace plan stop None None = ⊤
IsTrace plan stop None (Some steps) = ⊥
IsTrace plan stop (Some limit) None = ⊥
IsTrace plan stop (Some limit) (Some steps) = IsWholeTrace plan stop steps

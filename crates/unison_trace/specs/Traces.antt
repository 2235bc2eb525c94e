-- Traces of finished worlds.
use Rattle.std.specs.Prelude.{◌≡◌, ℕ, ◌+◌, ◌-◌, ◌*◌, ◌≤◌, List, length, Option, Some, None}
use Rattle.std.specs.Option.{option_map}
use Rattle.std.specs.List.{sum_by}
use Rattle.rounds_plan.specs.Plans.{PlanView}
use Rattle.unison_world.specs.declared.step.Step.{Step}
use Rattle.unison_world.specs.Counting.{at_start}
use Rattle.unison_world.specs.View.{WorldView}
use Rattle.unison_trace.specs.Histories.{LeadTo, Log}

-- how many steps it takes from the start to the stop: in each round two reads a link and a write a node; the sum of the nodes' degrees is twice the number of links
abbrev pub needed : PlanView → ℕ → ℕ
needed plan stop = (stop - plan.start) * (sum_by length plan.network + length plan.network)

-- the steps lead to all counts at the stop and no slot marked, each is answered Taken or Moved, and there are exactly as many as it takes
pub record IsWholeTrace (plan : PlanView) (stop : ℕ) (steps : List Step) : Type 0 where
  pub leads : LeadTo plan stop (at_start plan.network stop) steps
  pub count : length steps ≡ needed plan stop

-- the steps of a log
abbrev pub steps_in : Option Log → Option (List Step)
steps_in log = option_map (λ l. l.steps) log

-- no more steps are stored than it takes to the stop
abbrev pub IsNoLonger : WorldView → Option Log → Type 0
IsNoLonger world None = Unit {0}
IsNoLonger world (Some log) = length log.steps ≤ needed world.plan world.stop

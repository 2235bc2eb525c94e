-- A world beside the steps that changed it.
use Rattle.std.specs.Prelude.{◌≡◌, ℕ, ◌≤◌, ◌-◌, ◌<◌, ◌++◌, ◌∷◌, [], min, take, Bool, true, false, IsTrue, if◌then◌else◌, List, length, All, Option, Some, None, Result, Ok, Err}
use Rattle.rounds_plan.specs.Plans.{PlanView}
use Rattle.unison_world.specs.declared.step.Step.{Step}
use Rattle.unison_world.specs.declared.step.Step.TheVariants.{Write}
use Rattle.unison_world.specs.declared.step.Answer.{Answer}
use Rattle.unison_world.specs.declared.step.Answer.TheVariants.{Taken, Moved}
use Rattle.unison_world.specs.declared.step.WriteAnswer.{WriteAnswer}
use Rattle.unison_world.specs.declared.step.WriteAnswer.TheVariants as put
use Rattle.unison_world.specs.declared.fault.OpenFault.{OpenFault}
use Rattle.unison_world.specs.Counting.{Counts, at_start, run, answers}
use Rattle.unison_world.specs.View.{WorldView, answer_in, world_after}
use Rattle.unison_world.specs.Work.{after_put}
use Rattle.unison_world.specs.WorkViews.{WorkView}

-- the greatest number of steps that are stored, or stand in a schedule
abbrev pub most_steps : ℕ
most_steps = 1000000

-- the Run of a list of steps: the counts that it leads to from all counts at the start and no slot marked
abbrev pub run_of : PlanView → ℕ → List Step → Counts
run_of plan stop steps = run plan.network stop (at_start plan.network plan.start) steps

-- the answers of that Run
abbrev pub answers_of : PlanView → ℕ → List Step → List Answer
answers_of plan stop steps = answers plan.network stop (at_start plan.network plan.start) steps

-- whether a step with this answer changes the counts
abbrev pub is_change : Answer → Bool
is_change Taken = true
is_change Moved = true
is_change answer = false

-- whether a result with this answer moves its node
abbrev pub is_move : WriteAnswer → Bool
is_move put.Moved = true
is_move answer = false

-- the steps lead to these counts, and each is answered Taken or Moved
pub record LeadTo (plan : PlanView) (stop : ℕ) (counts : Counts) (steps : List Step) : Type 0 where
  pub arrive : run_of plan stop steps ≡ counts
  pub each_changes : All (λ answer. IsTrue (is_change answer)) (answers_of plan stop steps)

-- stored steps, and how many may be stored
pub record Log : Type 0 where
  pub limit : ℕ
  pub steps : List Step

-- there are no more steps than the limit, and this is no greater than any may be
pub record IsWithin (log : Log) : Type 0 where
  pub stored : length log.steps ≤ log.limit
  pub limit : log.limit ≤ most_steps

-- a world, and the steps that changed it where they are stored
pub record History : Type 0 where
  pub world : WorldView
  pub log : Option Log

-- what holds of the stored steps: they lead to the world's counts, each is answered Taken or Moved, and they are within their limit
pub record IsLogOf (world : WorldView) (log : Log) : Type 0 where
  pub leads : LeadTo world.plan world.stop world.counts log.steps
  pub within : IsWithin log

-- the same of a world beside its log, where there is one
abbrev pub IsHistoryOf : WorldView → Option Log → Type 0
IsHistoryOf world None = Unit {0}
IsHistoryOf world (Some log) = IsLogOf world log

-- what holds of every history
abbrev pub IsHistory : History → Type 0
IsHistory h = IsHistoryOf h.world h.log

-- one more step can be stored, or none are
abbrev pub HasRoom : Option Log → Type 0
HasRoom None = Unit {0}
HasRoom (Some log) = length log.steps < log.limit

-- the stored steps with this one at the end
abbrev pub and_step : Option Log → Step → Option Log
and_step None step = None
and_step (Some log) step = Some (record { limit = log.limit; steps = log.steps ++ step ∷ [] })

-- the stored steps without the last
abbrev pub without_last : Option Log → Option Log
without_last None = None
without_last (Some log) = Some (record { limit = log.limit; steps = take (length log.steps - 1) log.steps })

-- the history after a step, which is stored where it changes the world
abbrev pub history_after : History → Step → History
history_after h step =
    record { world = world_after h.world step; log = if is_change (answer_in h.world step) then and_step h.log step else h.log }

-- the history after a result was put with this answer: a move is stored as a write of its node
abbrev pub history_after_put : History → WorkView → WriteAnswer → History
history_after_put h d answer =
    record { world = after_put h.world d answer; log = if is_move answer then and_step h.log (Write d.node) else h.log }

-- no steps, where a limit is given, which is cut at the greatest
abbrev pub new_log : Option ℕ → Option Log
new_log None = None
new_log (Some limit) = Some (record { limit = min limit most_steps; steps = [] })

-- a world just opened, with no steps stored, or why there is none
abbrev pub with_log : Option ℕ → Result WorldView OpenFault → Result History OpenFault
with_log limit (Ok world) = Ok (record { world = world; log = new_log limit })
with_log limit (Err fault) = Err fault

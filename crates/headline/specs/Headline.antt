-- What Unison promises, in one place. A plan is a program on a network with the phase, the initial states and the round at which all
-- nodes begin. Each word is defined once, in a layer below: `lockstep` is the textbook synchronous round (Lockstep of rounds_plan),
-- `run_of` and `answers_of` are the count machine, which knows no states (Counting of unison_world), `report_text` spells a report
-- (Report of report_text), and `HasPlan` says which plan two texts have (Served of app_jobs).
use Rattle.std.specs.Prelude.{ℕ, ◌≡◌, ◌<◌, ◌≤◌, ◌+◌, ◌%◌, List, length, Option, Some, slice_get}
use Rattle.std.specs.Io.KnownBytes.{Appends}
use Rattle.rule_check.specs.Value.{names_of}
use Rattle.link_net.specs.Neighbours.{degree, neighbour}
use Rattle.rounds_plan.specs.Lockstep.{lockstep, lockstep_config}
use Rattle.rounds_plan.specs.Plans.{PlanView}
use Rattle.report_text.specs.Report.{report_text}
use Rattle.unison_world.specs.Counting.{moves_of}
use Rattle.unison_world.specs.declared.step.Step.{Step}
use Rattle.unison_trace.specs.Histories.{answers_of, run_of}
use Rattle.app_jobs.specs.Served.{HasPlan}
use Rattle.headline.specs.declared.steps.Seen.{Seen}
use Rattle.headline.specs.declared.steps.Shown.{Shown}

-- node u is seen to show this
abbrev pub Shows : Seen → ℕ → Shown → Type 0
Shows seen u node = slice_get seen.nodes.items u ≡ Some node

-- The first promise. All nodes begin with the plan's phase, and any list of single steps is made: a node reads the register of one
-- neighbour, or writes its own. Then each step has the answer of the count machine (`answers`). Each node is seen (`nodes`), and has
-- moved as often as the count machine says (`counts`); its phase has gone on by one each time, modulo three (`phases`). A node that has
-- moved t times holds exactly its lockstep state after t rounds (`states`). The counts of a node and of its neighbour at a slot differ
-- by at most one (`near`).
pub record IsUnison (plan : PlanView) (stop : ℕ) (steps : List Step) (seen : Seen) : Type 0 where
  pub answers : seen.answers.items ≡ answers_of plan stop steps
  pub nodes : length seen.nodes.items ≡ length plan.network
  pub counts : (u : ℕ) (node : Shown) → Shows seen u node → node.moves ≡ moves_of (run_of plan stop steps) u
  pub phases : (u : ℕ) (node : Shown) → Shows seen u node → node.phase ≡ (plan.phase + node.moves) % 3
  pub states : (u t : ℕ) (node : Shown) → Shows seen u node → node.moves ≡ t → node.state ≡ lockstep plan t u
  pub near : (u j : ℕ) (node other : Shown) → j < degree plan.network u → Shows seen u node → Shows seen (neighbour plan.network u j) other
      → (node.moves ≤ other.moves + 1) × (other.moves ≤ node.moves + 1)

-- The second promise. The texts of a program and a network have a plan (`texts`), and what a writer holds after a run by threads that
-- answers is what it held before and then exactly the report of the plan's lockstep configuration of the round (`report`).
pub record IsLockstepReport (program network : List ℕ) (round : ℕ) (held holds : Option (List ℕ)) : Type 0 where
  pub plan : PlanView
  pub texts : HasPlan program network plan
  pub report : Appends held holds (report_text (names_of plan.program) (lockstep_config plan round))

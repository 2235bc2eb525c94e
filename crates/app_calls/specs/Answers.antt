-- What the calls write. `old` is what stood in the caller's memory, `new` what stands there.
use Rattle.std.specs.Prelude.{ℕ, ◌≡◌, ◌≤◌, List, [], ◌∷◌, length, Option, Some, None, Ok}
use Rattle.rule_lang.specs.Tree.{ItemTree}
use Rattle.rule_lang.specs.Canonical.{program_text}
use Rattle.rounds_plan.specs.Configs.{Configuration}
use Rattle.rounds_plan.specs.Lockstep.{rounds_of}
use Rattle.rounds_plan.specs.Plans.{PlanView}
use Rattle.run_settle.specs.declared.settling.Settling.{Settling}
use Rattle.run_settle.specs.declared.settling.Settling.TheVariants.{Settles, Repeats, Open}
use Rattle.run_settle.specs.Outcomes.{IsSettling}
use Rattle.unison_world.specs.declared.step.Step.{Step}
use Rattle.unison_world.specs.Opening.{opening_of}
use Rattle.unison_world.specs.View.{opened}
use Rattle.unison_trace.specs.Histories.{most_steps, run_of}
use Rattle.unison_trace.specs.Replays.{replay_text}
use Rattle.unison_trace.specs.Schedules.{HasSteps}
use Rattle.app_jobs.specs.Served.{HasResumed, IsAccepted}
use Rattle.app_calls.specs.declared.plans.PlanTexts.{PlanTexts}
use Rattle.app_calls.specs.Words.{counts_in, list_fault, with_front, words_after, words_at, words_of}

-- the text of a report to go on from; an empty one is none
abbrev pub report_in : List ℕ → Option (List ℕ)
report_in [] = None
report_in (byte ∷ text) = Some (byte ∷ text)

-- the texts of a program and a network, and of a report to go on from, have a plan of which this holds
abbrev pub HasPlanWith : List ℕ → List ℕ → List ℕ → (PlanView → Type 0) → Type 0
HasPlanWith program network from P = (p : PlanView) × HasResumed program network (report_in from) p × P p

-- the same of texts that a call takes
abbrev pub HasPlanOf : PlanTexts → (PlanView → Type 0) → Type 0
HasPlanOf texts P = HasPlanWith texts.program.now texts.network.now texts.from.now P

-- the plan has so many nodes and fields
pub record HasShape (p : PlanView) (nodes fields : ℕ) : Type 0 where
  pub node_count : nodes ≡ length p.network
  pub field_count : fields ≡ length p.program.fields

-- the canonical spelling of the program stands in front, and has so many bytes
pub record IsSpelled (program old new : List ℕ) (len : ℕ) : Type 0 where
  pub items : List ItemTree
  pub accepted : IsAccepted program items
  pub text : new ≡ with_front (program_text items) old
  pub bytes : len ≡ length (program_text items)

-- the words of the configuration of the round stand in front; the plan has so many nodes and fields
pub record HasRoundWords (p : PlanView) (round : ℕ) (old new : List ℕ) (nodes fields : ℕ) : Type 0 where
  pub c : Configuration
  pub there : rounds_of p round ≡ Ok c
  pub words : new ≡ with_front (words_of c) old
  pub shape : HasShape p nodes fields

-- the words of the rounds stand in front, one round after the other; the plan has so many nodes and fields
pub record HaveRoundWords (p : PlanView) (rounds old new : List ℕ) (nodes fields : ℕ) : Type 0 where
  pub there : list_fault p p.start rounds ≡ None
  pub words : new ≡ with_front (words_at p rounds) old
  pub shape : HasShape p nodes fields

-- what becomes of the rounds, as three numbers
abbrev pub IsTold : Settling → ℕ → ℕ → ℕ → Type 0
IsTold (Settles at) manner round period = (manner ≡ 1) × (round ≡ at) × (period ≡ 0)
IsTold (Repeats at every) manner round period = (manner ≡ 2) × (round ≡ at) × (period ≡ every)
IsTold (Open limit) manner round period = (manner ≡ 3) × (round ≡ limit) × (period ≡ 0)

-- this becomes of the rounds up to the limit, and nothing else
pub record IsOnlySettling (p : PlanView) (limit : ℕ) (settling : Settling) : Type 0 where
  pub becomes : IsSettling p limit settling
  pub only : (other : Settling) → IsSettling p limit other → other ≡ settling

-- these three numbers are what becomes of the rounds up to the limit
abbrev pub HasSettling : PlanView → ℕ → ℕ → ℕ → ℕ → Type 0
HasSettling p limit manner round period = (settling : Settling) × IsOnlySettling p limit settling × IsTold settling manner round period

-- what a replay tells: its report, and for each node by rising number its count and its words
pub record Replayed : Type 0 where
  pub report : List ℕ
  pub counts : List ℕ
  pub words : List ℕ

-- these three
abbrev pub told_by : List ℕ → List ℕ → List ℕ → Replayed
told_by report counts words = record { report = report; counts = counts; words = words }

-- it is told of the Run of the steps that the text of the schedule has
pub record IsToldOf (p : PlanView) (stop : ℕ) (schedule : List ℕ) (told : Replayed) : Type 0 where
  pub steps : List Step
  pub has : HasSteps schedule steps
  pub few : length steps ≤ most_steps
  pub opens : opening_of p stop ≡ Ok (opened p stop)
  pub shows : told.report ≡ replay_text p (run_of p stop steps)
  pub moves : told.counts ≡ counts_in p (run_of p stop steps)
  pub states : told.words ≡ words_after p (run_of p stop steps)

-- the same, and the plan has so many nodes and fields
pub record TellsReplay (p : PlanView) (stop : ℕ) (schedule : List ℕ) (told : Replayed) (nodes fields : ℕ) : Type 0 where
  pub replay : IsToldOf p stop schedule told
  pub shape : HasShape p nodes fields

-- it stands in front of what stood in the caller's three memories
pub record ArePutIn (old new told : Replayed) : Type 0 where
  pub reports : new.report ≡ with_front told.report old.report
  pub moves : new.counts ≡ with_front told.counts old.counts
  pub states : new.words ≡ with_front told.words old.words

-- what the replay of the schedule tells stands in front; its report has so many bytes, the plan so many nodes and fields
pub record HasReplay (p : PlanView) (stop : ℕ) (schedule : List ℕ) (old new : Replayed) (len nodes fields : ℕ) : Type 0 where
  pub told : Replayed
  pub tells : TellsReplay p stop schedule told nodes fields
  pub put : ArePutIn old new told
  pub bytes : len ≡ length told.report

-- a text stands in front, and has so many bytes
pub record IsText (old new : List ℕ) (len : ℕ) : Type 0 where
  pub told : List ℕ
  pub text : new ≡ with_front told old
  pub bytes : len ≡ length told

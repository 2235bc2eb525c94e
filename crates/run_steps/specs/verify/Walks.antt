-- How a trace is walked through. The clauses of private functions speak of this, by what lines are read as; what it is for stands in Traces.
use Rattle.std.specs.Prelude.{◌≡◌, ◌≢◌, ◌⊎◌, ℕ, ◌<◌, ◌∷◌, ◌++◌, List, length, map, Option, Ok, Err}
use Rattle.std.specs.List.{count_by}
use Rattle.link_net.specs.Neighbours.{Neighbours, degree}
use Rattle.import_lines.specs.Texts.{told_from}
use Rattle.rounds_plan.specs.Configs.{most_rounds}
use Rattle.rounds_plan.specs.Plans.{PlanView}
use Rattle.unison_world.specs.declared.step.Step.{Step}
use Rattle.unison_world.specs.declared.step.Step.TheVariants.{Read, Write}
use Rattle.unison_world.specs.Counting.{Counts, at_start}
use Rattle.unison_trace.specs.Histories.{LeadTo}
use Rattle.run_steps.specs.declared.verify.entry.Entry.{Entry}
use Rattle.run_steps.specs.declared.verify.fault.VerifyFault.{VerifyFault}
use Rattle.run_steps.specs.declared.verify.fault.VerifyFault.TheVariants.{Memory}
use Rattle.run_steps.specs.declared.verify.verified.Verified.{Verified}
use Rattle.run_steps.specs.verify.Meaning.{entry_at}
use Rattle.run_steps.specs.verify.Shown.{AllAgree}
use Rattle.run_steps.specs.verify.Traces.{IsUnheld, has_value}

-- node and slot of a step are there
abbrev pub IsStepOf : Neighbours → Step → Type 0
IsStepOf network (Read u j) = (u < length network) × (j < degree network u)
IsStepOf network (Write u) = u < length network

-- these lines are read as entries, whose steps are a run to these counts, and whose values agree with it
pub record Runs (plan : PlanView) (names : Option (List (List ℕ))) (told : List (ℕ × List ℕ)) (entries : List Entry) (counts : Counts) : Type 0 where
  pub read : map (entry_at plan names) told ≡ map Ok entries
  pub run : LeadTo plan most_rounds counts (map (λ e. e.step) entries)
  pub agree : AllAgree plan (at_start plan.network plan.start) entries

-- of these lines those before the last ones hold: what their entries are, to which counts they lead, and how many they are
pub record Walked (plan : PlanView) (names : Option (List (List ℕ))) (told todo : List (ℕ × List ℕ)) (counts : Counts) (said given : ℕ) : Type 0 where
  pub earlier : List (ℕ × List ℕ)
  pub entries : List Entry
  pub all : told ≡ earlier ++ todo
  pub holds : Runs plan names earlier entries counts
  pub lines : said ≡ length entries
  pub valued : given ≡ count_by has_value entries

-- all lines of a text are walked through: how many there are, how many of them give a value, and the counts at the end
pub record IsWalked (plan : PlanView) (names : Option (List (List ℕ))) (text : List ℕ) (found : Verified) : Type 0 where
  pub entries : List Entry
  pub counts : Counts
  pub runs : Runs plan names (told_from 1 text) entries counts
  pub lines : found.lines ≡ length entries
  pub valued : found.valued ≡ count_by has_value entries
  pub moves : found.counts.items ≡ counts.moves

-- why a walk stops at a line, at these counts: it is refused as it is read, or its entry does not hold
abbrev pub Stops : PlanView → Option (List (List ℕ)) → Counts → ℕ × List ℕ → VerifyFault → Type 0
Stops plan names c here fault =
    (entry_at plan names here ≡ Err fault) ⊎ ((e : Entry) × (entry_at plan names here ≡ Ok e) × IsUnheld plan c here.0 e fault)

-- a walk through these lines stops at one of them
pub record IsStop (plan : PlanView) (names : Option (List (List ℕ))) (told : List (ℕ × List ℕ)) (fault : VerifyFault) : Type 0 where
  pub earlier : List (ℕ × List ℕ)
  pub here : ℕ × List ℕ
  pub later : List (ℕ × List ℕ)
  pub all : told ≡ earlier ++ here ∷ later
  pub entries : List Entry
  pub counts : Counts
  pub holds : Runs plan names earlier entries counts
  pub why : Stops plan names counts here fault

-- a walk through a text stops, but for running out of memory
abbrev pub IsStopped : PlanView → Option (List (List ℕ)) → List ℕ → VerifyFault → Type 0
IsStopped plan names text fault = fault ≢ Memory → IsStop plan names (told_from 1 text) fault

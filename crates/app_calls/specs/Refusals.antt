-- Why the calls write nothing: the first fault on the way. Memory may run out anywhere.
use Rattle.std.specs.Prelude.{ℕ, ◌≡◌, ◌≢◌, ◌*◌, ◌<◌, ◌⊎◌, Bool, true, false, ◌||◌, ◌==◌, List, length, None, Some, Ok, Err}
use Rattle.rule_lang.specs.declared.fault.LangFault.TheVariants as lang
use Rattle.rule_lang.specs.Tree.{ItemTree}
use Rattle.rule_lang.specs.Canonical.{program_text}
use Rattle.rounds_plan.specs.declared.fault.RoundFault.TheVariants as round
use Rattle.rounds_plan.specs.Configs.{Configuration}
use Rattle.rounds_plan.specs.Lockstep.{rounds_of}
use Rattle.rounds_plan.specs.Plans.{PlanView}
use Rattle.run_settle.specs.Outcomes.{IsFaultOf}
use Rattle.unison_trace.specs.ReplayFaults.{IsRefusedText}
use Rattle.app_jobs.specs.declared.fault.ServeFault.TheVariants as serve
use Rattle.app_jobs.specs.Served.{HasResumed, IsAccepted, RefusesProgram, RefusesTexts}
use Rattle.app_calls.specs.declared.fault.Fault.{Fault}
use Rattle.app_calls.specs.declared.fault.Fault.TheVariants.{Texts, Round, Replay, Settle, NotRising, NoJob, Room, Memory}
use Rattle.app_calls.specs.declared.plans.PlanTexts.{PlanTexts}
use Rattle.app_calls.specs.Answers.{HasShape, Replayed, TellsReplay, report_in}
use Rattle.app_calls.specs.Words.{list_fault}

-- the texts of a program and a network, and of a report to go on from, have no plan, or have one that is refused for this fault
abbrev pub IsRefusedPlan : List ℕ → List ℕ → List ℕ → (PlanView → Fault → Type 0) → Fault → Type 0
IsRefusedPlan program network from P (Texts f) = RefusesTexts program network (report_in from) f
IsRefusedPlan program network from P f = (p : PlanView) × HasResumed program network (report_in from) p × P p f

-- the same of texts that a call takes
abbrev pub HasNoPlanOf : PlanTexts → (PlanView → Fault → Type 0) → Fault → Type 0
HasNoPlanOf texts P f = IsRefusedPlan texts.program.now texts.network.now texts.from.now P f

-- a program's text that is too long is told as that, whatever memory and room there are
abbrev pub IsLongFault : List ℕ → Fault → Type 0
IsLongFault program f = 65536 < length program → f ≡ Texts (serve.Lang lang.TooLong)

-- how many words the nodes of a plan have
abbrev pub word_count : PlanView → ℕ
word_count p = length p.network * length p.program.fields

-- the spelling of the program is longer than the room, and has so many bytes
abbrev pub IsUnspelled : List ℕ → ℕ → ℕ → Fault → Type 0
IsUnspelled program room len (Texts f) = RefusesProgram program f
IsUnspelled program room len Room = (items : List ItemTree) × IsAccepted program items × (room < length (program_text items)) × (len ≡ length (program_text items))
IsUnspelled program room len Memory = Unit {0}
IsUnspelled program room len f = ⊥

-- the plan does not have the round, or the room is too small for its words
abbrev pub IsNoRound : ℕ → ℕ → ℕ → ℕ → PlanView → Fault → Type 0
IsNoRound t room nodes fields p (Round f) = f ≢ round.Memory → rounds_of p t ≡ Err f
IsNoRound t room nodes fields p Room = ((c : Configuration) × (rounds_of p t ≡ Ok c)) × (room < word_count p) × HasShape p nodes fields
IsNoRound t room nodes fields p Memory = Unit {0}
IsNoRound t room nodes fields p f = ⊥

-- the list of rounds has a fault, or the room is too small for their words
abbrev pub AreNoRounds : List ℕ → ℕ → ℕ → ℕ → PlanView → Fault → Type 0
AreNoRounds rounds room nodes fields p (Round f) = list_fault p p.start rounds ≡ Some (Round f)
AreNoRounds rounds room nodes fields p NotRising = list_fault p p.start rounds ≡ Some NotRising
AreNoRounds rounds room nodes fields p Room = (list_fault p p.start rounds ≡ None) × (room < length rounds * word_count p) × HasShape p nodes fields
AreNoRounds rounds room nodes fields p Memory = Unit {0}
AreNoRounds rounds room nodes fields p f = ⊥

-- it is not found out what becomes of the rounds
abbrev pub IsNoSettling : ℕ → PlanView → Fault → Type 0
IsNoSettling limit p (Settle f) = IsFaultOf p limit f
IsNoSettling limit p f = ⊥

-- one of the caller's three memories is too small
abbrev pub AreTooSmall : Replayed → Replayed → Type 0
AreTooSmall old told = (length old.report < length told.report) ⊎ ((length old.counts < length told.counts) ⊎ (length old.words < length told.words))

-- the schedule has no replay, or one of the caller's memories is too small for what it tells
abbrev pub IsNoReplay : ℕ → List ℕ → Replayed → ℕ → ℕ → ℕ → PlanView → Fault → Type 0
IsNoReplay stop schedule old len nodes fields p (Replay f) = IsRefusedText p stop schedule f
IsNoReplay stop schedule old len nodes fields p Room =
    (told : Replayed) × TellsReplay p stop schedule told nodes fields × AreTooSmall old told × (len ≡ length told.report)
IsNoReplay stop schedule old len nodes fields p Memory = Unit {0}
IsNoReplay stop schedule old len nodes fields p f = ⊥

-- there is a job of this number
abbrev pub is_job : ℕ → Bool
is_job job = job == 1 || (job == 2 || job == 3)

-- there is no job of this number, or memory was wanting
abbrev pub IsUnknownJob : ℕ → Fault → Type 0
IsUnknownJob job NoJob = is_job job ≡ false
IsUnknownJob job Memory = Unit {0}
IsUnknownJob job f = ⊥

-- the same, or the room is too small for what is told
abbrev pub IsUntold : ℕ → ℕ → ℕ → Fault → Type 0
IsUntold job room len Room = (is_job job ≡ true) × ((told : List ℕ) × (room < length told) × (len ≡ length told))
IsUntold job room len f = IsUnknownJob job f

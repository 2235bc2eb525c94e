-- What is written for the texts of a program and a network, and why nothing is.
use denote.Bor.{Bor}
use Rattle.std.specs.Prelude.{Option, option_map, ℕ, Bool, true, false, ◌≡◌, ◌≢◌, ◌≤◌, ◌<◌, List, [], ◌∷◌, ◌++◌, codes, length, Some, None, Ok, Err}
use Rattle.std.specs.Io.KnownBytes.{Appends}
use Rattle.rule_lang.specs.declared.fault.LangFault.TheVariants as lang
use Rattle.rule_lang.specs.Tree.{ItemTree}
use Rattle.rule_lang.specs.Program.{HasProgram, IsRefusedAs}
use Rattle.rule_lang.specs.Canonical.{program_text}
use Rattle.rule_check.specs.declared.fault.CheckFault.TheVariants as check
use Rattle.rule_check.specs.Value.{names_of}
use Rattle.rule_check.specs.WellFormed.{first_fault}
use Rattle.rule_check.specs.Items.{rules_of}
use Rattle.link_net.specs.declared.fault.NetFault.TheVariants as net
use Rattle.link_net.specs.Reading.{Description, reading_of}
use Rattle.rounds_plan.specs.declared.fault.PlanFault.TheVariants as plan
use Rattle.rounds_plan.specs.declared.fault.RoundFault.{RoundFault}
use Rattle.rounds_plan.specs.declared.fault.RoundFault.TheVariants as round
use Rattle.rounds_plan.specs.Plans.{PlanView, plan_of}
use Rattle.report_text.specs.declared.fault.ReportFault.{ReportFault}
use Rattle.report_text.specs.declared.fault.ReportFault.TheVariants as report
use Rattle.rounds_plan.specs.Configs.{Configuration, most_rounds}
use Rattle.rounds_plan.specs.Resume.{from_config}
use Rattle.report_text.specs.ReadReport.{IsReportOf, IsFirstBadLine}
use Rattle.rounds_plan.specs.Lockstep as steps
use Rattle.report_text.specs.Report.{report_text}
use Rattle.unison_world.specs.declared.step.Step.{Step}
use Rattle.unison_trace.specs.declared.fault.ReplayFault.{ReplayFault}
use Rattle.unison_trace.specs.declared.fault.ReplayFault.TheVariants as replay
use Rattle.unison_trace.specs.Histories.{most_steps}
use Rattle.unison_trace.specs.Schedules.{HasSteps}
use Rattle.unison_trace.specs.Traces.{IsWholeTrace}
use Rattle.unison_trace.specs.ReplayFaults.{IsReplayed, IsReplayFault}
use Rattle.unison_pool.specs.declared.fault.RunFault.{RunFault}
use Rattle.unison_pool.specs.declared.fault.RunFault.TheVariants as run
use Rattle.unison_pool.specs.Refusals.{Refuses, opening_refusal}
use Rattle.app_jobs.specs.declared.job.Job.{Job}
use Rattle.app_jobs.specs.declared.job.Job.TheVariants.{Check, Lockstep, Run, Replay, Compare}
use Rattle.app_jobs.specs.declared.fault.ServeFault.{ServeFault}
use Rattle.app_jobs.specs.declared.fault.ServeFault.TheVariants as fault

-- the bytes of a text, where there is one
abbrev pub given : Option (Bor (List ℕ)) → Option (List ℕ)
given text = option_map (λ t. t.now) text

-- the text is short enough and has these items
pub record HasItems (text : List ℕ) (items : List ItemTree) : Type 0 where
  pub short : length text ≤ 65536
  pub reads : HasProgram text items

-- the text has these items, and they are a well-formed program
pub record IsAccepted (text : List ℕ) (items : List ItemTree) : Type 0 where
  pub has : HasItems text items
  pub well_formed : first_fault (rules_of items) ≡ None

-- the texts of a program and a network have this plan
pub record HasPlan (program network : List ℕ) (p : PlanView) : Type 0 where
  pub items : List ItemTree
  pub accepted : IsAccepted program items
  pub description : Description
  pub describes : reading_of network ≡ Ok description
  pub plan : plan_of (rules_of items) description ≡ Ok p

-- the second plan goes on from the configuration whose report the text is; without a text it is the first
abbrev pub IsResumedAs : PlanView → Option (List ℕ) → PlanView → Type 0
IsResumedAs p None q = q ≡ p
IsResumedAs p (Some text) q = (c : Configuration) × IsReportOf p text c × (c.rounds ≤ most_rounds) × (q ≡ from_config p c)

-- the texts of a program and a network, and of a report where there is one, have this plan
pub record HasResumed (program network : List ℕ) (from : Option (List ℕ)) (q : PlanView) : Type 0 where
  pub base : PlanView
  pub plan : HasPlan program network base
  pub resumed : IsResumedAs base from q

-- this is the Report of the plan's lockstep states of the round, which is not refused
abbrev pub IsRoundReport : PlanView → ℕ → List ℕ → Type 0
IsRoundReport p rounds text = (c : Configuration) × (steps.rounds_of p rounds ≡ Ok c) × (text ≡ report_text (names_of p.program) c)

-- the configuration has the plan's numbers of nodes and fields
pub record HasPlanShape (p : PlanView) (c : Configuration) : Type 0 where
  pub nodes : length c.states ≡ length p.network
  pub fields : c.fields ≡ length p.program.fields

-- the line that `compare` writes: the word `same`
abbrev pub same_text : List ℕ
same_text = codes "same" ++ 10 ∷ []

-- the text that the job writes for a plan, where it reads no schedule; a run is made only where its opening refuses nothing
abbrev pub IsPlanServed : Job → PlanView → List ℕ → Type 0
IsPlanServed Check p text = ⊥
IsPlanServed (Lockstep rounds) p text = IsRoundReport p rounds text
IsPlanServed (Run rounds workers traced) p text = (opening_refusal p rounds workers ≡ None) × IsRoundReport p rounds text
IsPlanServed (Replay stop) p text = ⊥
IsPlanServed (Compare rounds workers) p text = (opening_refusal p rounds workers ≡ None) × ((c : Configuration) × (steps.rounds_of p rounds ≡ Ok c) × (text ≡ same_text))

-- the text that the job writes, where it reads no schedule, for the texts of a program and a network, and of a report to go on from where there is one
abbrev pub IsServed : Job → List ℕ → List ℕ → Option (List ℕ) → List ℕ → Type 0
IsServed Check program network from text = (items : List ItemTree) × IsAccepted program items × (text ≡ program_text items)
IsServed job program network from text = (p : PlanView) × HasResumed program network from p × IsPlanServed job p text

-- the job is done: its text was written, or the replay report of all that the schedule's reader gave; the last four are what that reader had and has left, and what the writer held and holds
abbrev pub IsDone : Job → List ℕ → List ℕ → Option (List ℕ) → Option (List ℕ) → Option (List ℕ) → Option (List ℕ) → Option (List ℕ) → Type 0
IsDone (Replay stop) program network from had left held holds = (p : PlanView) × HasResumed program network from p × IsReplayed p stop had left held holds
IsDone job program network from had left held holds = (text : List ℕ) × IsServed job program network from text × Appends held holds text

-- both are there or neither is, and the text has these steps
abbrev pub AreTextOf : Option (List Step) → Option (List ℕ) → Type 0
AreTextOf None None = Unit {0}
AreTextOf None (Some text) = ⊥
AreTextOf (Some made) None = ⊥
AreTextOf (Some made) (Some text) = HasSteps text made

-- a trace is there exactly where one is asked for, and its steps are a whole trace of the plan up to the round
abbrev pub IsTraceText : PlanView → ℕ → Bool → Option (List ℕ) → Type 0
IsTraceText p rounds true None = ⊥
IsTraceText p rounds true (Some text) = (made : List Step) × HasSteps text made × IsWholeTrace p rounds made
IsTraceText p rounds false trace = trace ≡ None

-- the same for a job and a plan; no other job has a trace
abbrev pub IsPlanTrace : Job → PlanView → Option (List ℕ) → Type 0
IsPlanTrace (Run rounds workers traced) p trace = IsTraceText p rounds traced trace
IsPlanTrace job p trace = trace ≡ None

-- the same for a job and its texts
abbrev pub HasTrace : Job → List ℕ → List ℕ → Option (List ℕ) → Option (List ℕ) → Type 0
HasTrace (Run rounds workers traced) program network from trace = (p : PlanView) × HasResumed program network from p × IsTraceText p rounds traced trace
HasTrace job program network from trace = trace ≡ None

-- the job reads a network
abbrev pub NeedsNetwork : Job → Type 0
NeedsNetwork Check = ⊥
NeedsNetwork job = Unit {0}

-- the job reads no schedule
abbrev pub IsUnscheduled : Job → Type 0
IsUnscheduled (Replay stop) = ⊥
IsUnscheduled job = Unit {0}

-- the job has a plan, and reads no schedule
abbrev pub HasPlanText : Job → Type 0
HasPlanText Check = ⊥
HasPlanText (Replay stop) = ⊥
HasPlanText job = Unit {0}

-- the round that the job asks for is refused
abbrev pub RefusesRounds : Job → PlanView → RoundFault → Type 0
RefusesRounds (Lockstep rounds) p f = steps.rounds_of p rounds ≡ Err f
RefusesRounds (Compare rounds workers) p f = steps.rounds_of p rounds ≡ Err f
RefusesRounds job p f = ⊥

-- the limit of a trace, where the job asks for one
abbrev pub trace_limit : Bool → Option ℕ
trace_limit true = Some most_steps
trace_limit false = None

-- the run by workers that the job asks for is refused; a comparison makes its run after the lockstep rounds, which were not refused
abbrev pub RefusesRun : Job → PlanView → RunFault → Type 0
RefusesRun (Run rounds workers traced) p f = Refuses p rounds workers (trace_limit traced) f
RefusesRun (Compare rounds workers) p f = ((c : Configuration) × (steps.rounds_of p rounds ≡ Ok c)) × Refuses p rounds workers None f
RefusesRun job p f = ⊥

-- the replay that the job asks for is refused, or was cut short
abbrev pub RefusesReplay : Job → PlanView → Option (List ℕ) → Option (List ℕ) → Option (List ℕ) → Option (List ℕ) → ReplayFault → Type 0
RefusesReplay (Replay stop) p had left held holds f = IsReplayFault p stop had left held holds f
RefusesReplay job p had left held holds f = ⊥

-- why a job is refused for a plan
abbrev pub IsPlanRefusal : Job → PlanView → ServeFault → Type 0
IsPlanRefusal job p (fault.Round f) = f ≢ round.Memory → RefusesRounds job p f
IsPlanRefusal job p (fault.Run f) = f ≢ run.Memory → RefusesRun job p f
IsPlanRefusal job p fault.Memory = Unit {0}
IsPlanRefusal job p f = ⊥

-- why the text of a report is refused for a plan
abbrev pub RefusesReport : PlanView → List ℕ → ReportFault → Type 0
RefusesReport p text (report.BadLine line) = IsFirstBadLine p text line
RefusesReport p text report.TooManyRounds = (c : Configuration) × IsReportOf p text c × (most_rounds < c.rounds)
RefusesReport p text report.Memory = Unit {0}

-- why the text of a program is refused: it is not read, or it is not well formed. Memory may run out anywhere.
abbrev pub RefusesProgram : List ℕ → ServeFault → Type 0
RefusesProgram program (fault.Lang f) = IsRefusedAs program f
RefusesProgram program (fault.Check f) = f ≢ check.Memory → (items : List ItemTree) × HasItems program items × (first_fault (rules_of items) ≡ Some f)
RefusesProgram program fault.Memory = Unit {0}
RefusesProgram program f = ⊥

-- a program's text that is too long is refused as that, whatever memory there is
abbrev pub IsLongFirst : List ℕ → ServeFault → Type 0
IsLongFirst program f = 65536 < length program → f ≡ fault.Lang lang.TooLong

-- why the texts of a program and a network, and of a report where there is one, give no plan: the first fault on the way
abbrev pub RefusesTexts : List ℕ → List ℕ → Option (List ℕ) → ServeFault → Type 0
RefusesTexts program network from (fault.Net f) = f ≢ net.Memory → (items : List ItemTree) × IsAccepted program items × (reading_of network ≡ Err f)
RefusesTexts program network from (fault.Plan f) = f ≢ plan.Memory → (items : List ItemTree) × (d : Description) × IsAccepted program items × (reading_of network ≡ Ok d) × (plan_of (rules_of items) d ≡ Err f)
RefusesTexts program network from (fault.Report f) = (p : PlanView) × (text : List ℕ) × HasPlan program network p × (from ≡ Some text) × RefusesReport p text f
RefusesTexts program network from f = RefusesProgram program f

-- Why nothing was written: the first fault on the way from the texts to the answer. Memory may run out anywhere.
abbrev pub IsRefusal : Job → List ℕ → List ℕ → Option (List ℕ) → ServeFault → Type 0
IsRefusal job program network from (fault.Lang f) = RefusesProgram program (fault.Lang f)
IsRefusal job program network from (fault.Check f) = RefusesProgram program (fault.Check f)
IsRefusal job program network from (fault.Net f) = NeedsNetwork job × RefusesTexts program network from (fault.Net f)
IsRefusal job program network from (fault.Plan f) = NeedsNetwork job × RefusesTexts program network from (fault.Plan f)
IsRefusal job program network from (fault.Report f) = NeedsNetwork job × RefusesTexts program network from (fault.Report f)
IsRefusal job program network from (fault.Round f) = f ≢ round.Memory → (p : PlanView) × HasResumed program network from p × RefusesRounds job p f
IsRefusal job program network from (fault.Run f) = f ≢ run.Memory → (p : PlanView) × HasResumed program network from p × RefusesRun job p f
IsRefusal job program network from (fault.Replay f) = ⊥
IsRefusal job program network from (fault.Write written) = Unit {0}
IsRefusal job program network from fault.Memory = Unit {0}

-- the same, and why a replay was refused; the last four are what the schedule's reader had and has left, and what the writer held and holds
abbrev pub IsServeRefusal : Job → List ℕ → List ℕ → Option (List ℕ) → Option (List ℕ) → Option (List ℕ) → Option (List ℕ) → Option (List ℕ) → ServeFault → Type 0
IsServeRefusal job program network from had left held holds (fault.Replay f) = (p : PlanView) × HasResumed program network from p × RefusesReplay job p had left held holds f
IsServeRefusal job program network from had left held holds f = IsRefusal job program network from f

-- whether the writer failed in mid-text
abbrev pub is_short : ServeFault → Bool
is_short (fault.Write written) = true
is_short (fault.Replay (replay.Write written)) = true
is_short f = false

-- the fault came before anything was written
abbrev pub IsUnwritten : ServeFault → Type 0
IsUnwritten f = is_short f ≡ false

-- running out of memory, or why the text of a report is refused for a plan
abbrev pub IsReportRefusal : PlanView → List ℕ → ServeFault → Type 0
IsReportRefusal p text (fault.Report f) = RefusesReport p text f
IsReportRefusal p text fault.Memory = Unit {0}
IsReportRefusal p text _ = ⊥

-- The first fault with which a job would end, and when there is none: running out of memory, threads and devices aside.
use Rattle.std.specs.Prelude.{ℕ, Bool, true, false, ◌≡◌, ◌≤◌, List, length, Option, None, Ok}
use Rattle.rule_lang.specs.Tree.{ItemTree}
use Rattle.rule_lang.specs.declared.fault.LangFault.TheVariants as lang
use Rattle.rule_check.specs.declared.fault.CheckFault.TheVariants as check
use Rattle.link_net.specs.declared.fault.NetFault.TheVariants as net
use Rattle.link_net.specs.Reading.{Description, reading_of}
use Rattle.rounds_plan.specs.declared.fault.PlanFault.TheVariants as plan
use Rattle.report_text.specs.declared.fault.ReportFault.TheVariants as report
use Rattle.rounds_plan.specs.declared.fault.RoundFault.TheVariants as round
use Rattle.rounds_plan.specs.Configs.{Configuration}
use Rattle.rounds_plan.specs.Plans.{PlanView}
use Rattle.rounds_plan.specs.Lockstep as steps
use Rattle.unison_world.specs.declared.step.Step.{Step}
use Rattle.unison_world.specs.declared.fault.OpenFault.TheVariants as opening
use Rattle.unison_world.specs.Opening.{opening_of}
use Rattle.unison_world.specs.View.{opened}
use Rattle.unison_trace.specs.declared.fault.ScheduleFault.TheVariants as schedule
use Rattle.unison_trace.specs.declared.fault.ReplayFault.TheVariants as replay
use Rattle.unison_trace.specs.Histories.{most_steps}
use Rattle.unison_trace.specs.Schedules.{HasSteps}
use Rattle.unison_trace.specs.Traces.{needed}
use Rattle.unison_trace.specs.ReplayFaults.{IsRefusedText}
use Rattle.unison_pool.specs.declared.fault.RunFault.TheVariants as run
use Rattle.unison_pool.specs.Refusals.{opening_refusal}
use Rattle.app_jobs.specs.declared.job.Job.{Job}
use Rattle.app_jobs.specs.declared.job.Job.TheVariants.{Check, Lockstep, Run, Replay, Compare}
use Rattle.app_jobs.specs.declared.fault.ServeFault.{ServeFault}
use Rattle.app_jobs.specs.declared.fault.ServeFault.TheVariants as fault
use Rattle.app_jobs.specs.Served.{IsAccepted, HasResumed, IsRefusal, IsPlanRefusal, NeedsNetwork}

-- the texts of a job show the fault: it is no running out of memory, no thread that was refused, nothing that workers leave, and no device's
abbrev pub is_shown : ServeFault → Bool
is_shown (fault.Lang lang.Memory) = false
is_shown (fault.Lang f) = true
is_shown (fault.Check check.Memory) = false
is_shown (fault.Check f) = true
is_shown (fault.Net net.Memory) = false
is_shown (fault.Net f) = true
is_shown (fault.Plan plan.Memory) = false
is_shown (fault.Plan f) = true
is_shown (fault.Report report.Memory) = false
is_shown (fault.Report f) = true
is_shown (fault.Round round.Memory) = false
is_shown (fault.Round f) = true
is_shown (fault.Run run.NoThread) = false
is_shown (fault.Run run.Foreign) = false
is_shown (fault.Run (run.Unfinished node moves)) = false
is_shown (fault.Run run.Memory) = false
is_shown (fault.Run f) = true
is_shown (fault.Replay (replay.Schedule schedule.Memory)) = false
is_shown (fault.Replay (replay.Schedule f)) = true
is_shown (fault.Replay (replay.Opening opening.Memory)) = false
is_shown (fault.Replay (replay.Opening f)) = true
is_shown (fault.Replay f) = false
is_shown (fault.Write written) = false
is_shown fault.Memory = false

-- the network is read, where the job needs one and its program is accepted
abbrev pub HasNetwork : Job → List ℕ → List ℕ → Type 0
HasNetwork job program network = NeedsNetwork job → (items : List ItemTree) → IsAccepted program items → (d : Description) × (reading_of network ≡ Ok d)

-- the configuration of the round is there
abbrev pub HasRounds : PlanView → ℕ → Type 0
HasRounds p rounds = (c : Configuration) × (steps.rounds_of p rounds ≡ Ok c)

-- a run to the round is begun, and where a trace is asked its steps are not too many
abbrev pub IsRunnable : PlanView → ℕ → ℕ → Bool → Type 0
IsRunnable p rounds workers traced = (opening_refusal p rounds workers ≡ None) × (traced ≡ true → needed p rounds ≤ most_steps)

-- the text is a schedule, and there is a world for its steps
abbrev pub IsReplayable : PlanView → ℕ → List ℕ → Type 0
IsReplayable p stop text = ((made : List Step) × HasSteps text made × (length made ≤ most_steps)) × (opening_of p stop ≡ Ok (opened p stop))

-- why a job is refused for a plan; of a replay, for the text of its schedule
abbrev pub IsPlanFault : Job → PlanView → List ℕ → ServeFault → Type 0
IsPlanFault (Replay stop) p schedule (fault.Replay f) = IsRefusedText p stop schedule f
IsPlanFault job p schedule f = IsPlanRefusal job p f

-- nothing refuses a job for a plan
abbrev pub IsUnrefusedPlan : Job → PlanView → List ℕ → Type 0
IsUnrefusedPlan Check p schedule = ⊥
IsUnrefusedPlan (Lockstep rounds) p schedule = HasRounds p rounds
IsUnrefusedPlan (Run rounds workers traced) p schedule = IsRunnable p rounds workers traced
IsUnrefusedPlan (Replay stop) p schedule = IsReplayable p stop schedule
IsUnrefusedPlan (Compare rounds workers) p schedule = HasRounds p rounds × IsRunnable p rounds workers false

-- the first fault of a job on its texts: one of those for which it is refused before its work
abbrev pub IsFirstFault : Job → List ℕ → List ℕ → Option (List ℕ) → List ℕ → ServeFault → Type 0
IsFirstFault job program network from schedule (fault.Replay f) = (p : PlanView) × HasResumed program network from p × IsPlanFault job p schedule (fault.Replay f)
IsFirstFault job program network from schedule f = IsRefusal job program network from f

-- nothing refuses a job on its texts
abbrev pub IsUnrefused : Job → List ℕ → List ℕ → Option (List ℕ) → List ℕ → Type 0
IsUnrefused Check program network from schedule = (items : List ItemTree) × IsAccepted program items
IsUnrefused job program network from schedule = (p : PlanView) × HasResumed program network from p × IsUnrefusedPlan job p schedule

-- The first fault of a job depends on no text that it does not read.
use Rattle.std.proofs.Common.{List, ℕ, Option}
use Rattle.rounds_plan.specs.Plans.{PlanView}
use Rattle.unison_trace.specs.declared.fault.ReplayFault.{ReplayFault}
use Rattle.app_jobs.specs.declared.job.Job.{Job}
use Rattle.app_jobs.specs.declared.job.Job.TheVariants.{Check, Lockstep, Run, Replay, Compare}
use Rattle.app_jobs.specs.declared.fault.ServeFault.{ServeFault}
use Rattle.app_jobs.specs.declared.fault.ServeFault.TheVariants as serve
use Rattle.app_jobs.specs.Served.{IsUnscheduled}
use Rattle.app_jobs.specs.FirstFault.{IsFirstFault, IsPlanFault}

-- only a replay has a fault of replays
no_replay : (job : Job) (p : PlanView) (schedule : List ℕ) (g : ReplayFault) → IsUnscheduled job → IsPlanFault job p schedule (serve.Replay g) → ⊥
no_replay Check p schedule g free h = h
no_replay (Lockstep rounds) p schedule g free h = h
no_replay (Run rounds workers traced) p schedule g free h = h
no_replay (Replay stop) p schedule g free h = free
no_replay (Compare rounds workers) p schedule g free h = h

-- a job but a replay reads no schedule
pub unscheduled_first : (job : Job) (program network schedule schedule' : List ℕ) (from : Option (List ℕ)) (f : ServeFault) → IsUnscheduled job
    → IsFirstFault job program network from schedule f → IsFirstFault job program network from schedule' f
unscheduled_first job program network schedule schedule' from (serve.Lang g) free h = h
unscheduled_first job program network schedule schedule' from (serve.Check g) free h = h
unscheduled_first job program network schedule schedule' from (serve.Net g) free h = h
unscheduled_first job program network schedule schedule' from (serve.Plan g) free h = h
unscheduled_first job program network schedule schedule' from (serve.Report g) free h = h
unscheduled_first job program network schedule schedule' from (serve.Round g) free h = h
unscheduled_first job program network schedule schedule' from (serve.Run g) free h = h
unscheduled_first job program network schedule schedule' from (serve.Replay g) free h = absurd (no_replay job h.0 schedule g free h.2)
unscheduled_first job program network schedule schedule' from (serve.Write written) free h = tt
unscheduled_first job program network schedule schedule' from serve.Memory free h = tt

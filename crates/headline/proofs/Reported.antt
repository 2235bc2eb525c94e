-- What a job of a run by threads has done is what is promised.
use Rattle.std.proofs.Common.{◌≡◌, ◌∙◌, ℕ, false, List, None, Option, ap, subst, sym}
use Rattle.std.specs.Io.KnownBytes.{Appends}
use Rattle.rule_check.specs.Value.{names_of}
use Rattle.rounds_plan.specs.Lockstep.{lockstep_config}
use Rattle.rounds_plan.specs.Plans.{PlanView}
use Rattle.report_text.specs.Report.{report_text}
use Rattle.app_jobs.specs.declared.fault.ServeFault.{ServeFault}
use Rattle.app_jobs.specs.declared.fault.ServeFault.TheVariants as fault
use Rattle.app_jobs.specs.declared.job.Job.TheVariants.{Run}
use Rattle.app_jobs.specs.Served.{HasPlan, IsDone, IsPlanServed, IsRefusal, IsServeRefusal}
use Rattle.app_jobs.proofs.Shapes.{is_lockstep}
use Rattle.headline.specs.Headline.{IsLockstepReport}

-- what holds of the text of a run holds of the report of the lockstep configuration
round_report : (p : PlanView) (round workers : ℕ) (text : List ℕ) (P : List ℕ → Type 0) → IsPlanServed (Run round workers false) p text → P text → P (report_text (names_of p.program) (lockstep_config p round))
round_report p round workers text P (begun, (config, there, is)) holds = subst P (is ∙ ap (report_text (names_of p.program)) (is_lockstep p round config there)) holds

pub is_report : (program network : List ℕ) (round workers : ℕ) (had left held holds : Option (List ℕ))
    → IsDone (Run round workers false) program network None had left held holds → IsLockstepReport program network round held holds
is_report program network round workers had left held holds done = record {
  plan = done.1.0;
  texts = subst (HasPlan program network) (sym done.1.1.resumed) done.1.1.plan;
  report = round_report done.1.0 round workers done.0 (λ text. Appends held holds text) done.1.2 done.2;
}

-- such a job is not refused as a replay is
pub is_refusal : (program network : List ℕ) (round workers : ℕ) (had left held holds : Option (List ℕ)) (f : ServeFault)
    → IsServeRefusal (Run round workers false) program network None had left held holds f → IsRefusal (Run round workers false) program network None f
is_refusal program network round workers had left held holds (fault.Lang f) h = h
is_refusal program network round workers had left held holds (fault.Check f) h = h
is_refusal program network round workers had left held holds (fault.Net f) h = h
is_refusal program network round workers had left held holds (fault.Plan f) h = h
is_refusal program network round workers had left held holds (fault.Report f) h = h
is_refusal program network round workers had left held holds (fault.Round f) h = h
is_refusal program network round workers had left held holds (fault.Run f) h = h
is_refusal program network round workers had left held holds (fault.Replay f) h = absurd h.2
is_refusal program network round workers had left held holds (fault.Write written) h = h
is_refusal program network round workers had left held holds fault.Memory h = h

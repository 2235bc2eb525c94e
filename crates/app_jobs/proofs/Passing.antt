-- What a job's plan says of its texts.
use Rattle.std.proofs.Common.{◌≡◌, ◌≢◌, ℕ, List, Option, refl, subst, arith}
use Rattle.rule_lang.specs.declared.fault.LangFault.{LangFault}
use Rattle.rule_lang.specs.declared.fault.LangFault.TheVariants as lang
use Rattle.rule_lang.specs.Tree.{ItemTree}
use Rattle.rule_lang.specs.Program.{IsRefusedAs}
use Rattle.rounds_plan.specs.Plans.{PlanView}
use Rattle.unison_trace.specs.declared.fault.ReplayFault.{ReplayFault}
use Rattle.app_jobs.specs.declared.job.Job.{Job}
use Rattle.app_jobs.specs.declared.job.Job.TheVariants.{Check, Lockstep, Run, Replay, Compare}
use Rattle.app_jobs.specs.declared.fault.ServeFault.{ServeFault}
use Rattle.app_jobs.specs.declared.fault.ServeFault.TheVariants as fault
use Rattle.app_jobs.specs.Served.{HasPlan, HasResumed, IsAccepted, IsLongFirst, IsRefusal, IsServeRefusal, NeedsNetwork, RefusesProgram, RefusesTexts}

pub needs_network : (job : Job) → job ≢ Check → NeedsNetwork job
needs_network Check other = absurd (other refl)
needs_network (Lockstep rounds) other = tt
needs_network (Run rounds workers traced) other = tt
needs_network (Replay stop) other = tt
needs_network (Compare rounds workers) other = tt

-- a program that is refused is refused with any network and any report
pub refused_program : (program network : List ℕ) (from : Option (List ℕ)) (f : ServeFault) → RefusesProgram program f → RefusesTexts program network from f
refused_program program network from (fault.Lang f) h = h
refused_program program network from (fault.Check f) h = h
refused_program program network from (fault.Net f) h = absurd h
refused_program program network from (fault.Plan f) h = absurd h
refused_program program network from (fault.Report f) h = absurd h
refused_program program network from (fault.Round f) h = h
refused_program program network from (fault.Run f) h = h
refused_program program network from (fault.Replay f) h = h
refused_program program network from (fault.Write written) h = h
refused_program program network from fault.Memory h = h

-- and for any job
pub refused_check : (job : Job) (program network : List ℕ) (from : Option (List ℕ)) (f : ServeFault) → RefusesProgram program f → IsRefusal job program network from f
refused_check job program network from (fault.Lang f) h = h
refused_check job program network from (fault.Check f) h = h
refused_check job program network from (fault.Net f) h = absurd h
refused_check job program network from (fault.Plan f) h = absurd h
refused_check job program network from (fault.Report f) h = absurd h
refused_check job program network from (fault.Round f) h = absurd h
refused_check job program network from (fault.Run f) h = absurd h
refused_check job program network from (fault.Replay f) h = h
refused_check job program network from (fault.Write written) h = absurd h
refused_check job program network from fault.Memory h = h

-- a job that reads a network is refused where its texts are
pub refused_texts : (job : Job) (program network : List ℕ) (from : Option (List ℕ)) (f : ServeFault) → NeedsNetwork job → RefusesTexts program network from f → IsRefusal job program network from f
refused_texts job program network from (fault.Lang f) needs h = h
refused_texts job program network from (fault.Check f) needs h = h
refused_texts job program network from (fault.Net f) needs h = (needs, h)
refused_texts job program network from (fault.Plan f) needs h = (needs, h)
refused_texts job program network from (fault.Report f) needs h = (needs, h)
refused_texts job program network from (fault.Round f) needs h = absurd h
refused_texts job program network from (fault.Run f) needs h = absurd h
refused_texts job program network from (fault.Replay f) needs h = h
refused_texts job program network from (fault.Write written) needs h = absurd h
refused_texts job program network from fault.Memory needs h = h

pub serve_refusal : (job : Job) (program network : List ℕ) (from had left held holds : Option (List ℕ)) (f : ServeFault)
    → IsRefusal job program network from f → IsServeRefusal job program network from had left held holds f
serve_refusal job program network from had left held holds (fault.Lang f) h = h
serve_refusal job program network from had left held holds (fault.Check f) h = h
serve_refusal job program network from had left held holds (fault.Net f) h = h
serve_refusal job program network from had left held holds (fault.Plan f) h = h
serve_refusal job program network from had left held holds (fault.Report f) h = h
serve_refusal job program network from had left held holds (fault.Round f) h = h
serve_refusal job program network from had left held holds (fault.Run f) h = h
serve_refusal job program network from had left held holds (fault.Replay f) h = absurd h
serve_refusal job program network from had left held holds (fault.Write written) h = h
serve_refusal job program network from had left held holds fault.Memory h = h

-- no such fault is a replay's
pub not_replay : (job : Job) (program network : List ℕ) (from : Option (List ℕ)) (f : ServeFault) (r : ReplayFault)
    → IsRefusal job program network from f → f ≡ fault.Replay r → ⊥
not_replay job program network from f r h is = subst (IsRefusal job program network from) is h

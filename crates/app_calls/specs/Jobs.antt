-- Which job `unison_why` looks at, and the number that it tells: that of the first fault with which the job would end. Texts that a job
-- does not read play no part in `IsFirstFault` and `IsUnrefused`: a check reads the program alone, rounds all but the schedule.
use Rattle.std.specs.Prelude.{ℕ, ◌≡◌, List, Option, true}
use Rattle.app_jobs.specs.declared.job.Job.{Job}
use Rattle.app_jobs.specs.declared.job.Job.TheVariants.{Check, Lockstep, Replay}
use Rattle.app_jobs.specs.declared.fault.ServeFault.{ServeFault}
use Rattle.app_jobs.specs.declared.fault.ServeFault.TheVariants as serve
use Rattle.app_jobs.specs.FirstFault.{IsFirstFault, is_shown}
use Rattle.app_calls.specs.declared.fault.Fault.{Fault}
use Rattle.app_calls.specs.declared.fault.Fault.TheVariants as fault
use Rattle.app_calls.specs.Numbers.{number_of}

-- this is the job of that number; its round or its stop is `number`
abbrev pub IsJob : ℕ → ℕ → Job → Type 0
IsJob job number Check = job ≡ 1
IsJob job number (Lockstep rounds) = (job ≡ 2) × (rounds ≡ number)
IsJob job number (Replay stop) = (job ≡ 3) × (stop ≡ number)
IsJob job number _ = ⊥

-- there is a job of that number, and this holds of it
abbrev pub HasJobWith : ℕ → ℕ → (Job → Type 0) → Type 0
HasJobWith job number P = (asked : Job) × IsJob job number asked × P asked

-- the fault with which a job ends, as a fault of the calls, which has a number
abbrev pub ending_of : ServeFault → Fault
ending_of (serve.Round f) = fault.Round f
ending_of (serve.Replay f) = fault.Replay f
ending_of f = fault.Texts f

-- this is the number of a first fault of the job on these texts, which they show
pub record IsFirstNumber (job : Job) (program network : List ℕ) (from : Option (List ℕ)) (schedule : List ℕ) (n : ℕ) : Type 0 where
  pub of : ServeFault
  pub first : IsFirstFault job program network from schedule of
  pub shown : is_shown of ≡ true
  pub number : n ≡ number_of (ending_of of)

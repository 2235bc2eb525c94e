-- The number of what is found is that of a first fault.
use Rattle.std.proofs.Common.{◌≡◌, ◌≢◌, List, ℕ, Option, Some, None, IfSome, IsNone, true, refl}
use Rattle.app_jobs.specs.declared.job.Job.{Job}
use Rattle.app_jobs.specs.declared.fault.ServeFault.{ServeFault}
use Rattle.app_jobs.specs.FirstFault.{IsFirstFault, is_shown}
use Rattle.app_calls.specs.Jobs.{IsFirstNumber, ending_of}
use Rattle.app_calls.specs.Numbers.{number_of}

-- where the number is not 0, it is that of what was found
pub first_of_found : (job : Job) (program network schedule : List ℕ) (from : Option (List ℕ)) (found : Option ServeFault) (n : ℕ) (P : ServeFault → Type 0)
    → (IsNone found → n ≡ 0) → IfSome found (λ f. n ≡ number_of (ending_of f)) → IfSome found P → IfSome found (λ f. is_shown f ≡ true)
    → ((f : ServeFault) → P f → IsFirstFault job program network from schedule f) → n ≢ 0 → IsFirstNumber job program network from schedule n
first_of_found job program network schedule from None n P none number first shown all some = absurd (some (none refl))
first_of_found job program network schedule from (Some f) n P none number first shown all some = record { of = f; first = all f first; shown = shown; number = number }

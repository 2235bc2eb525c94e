-- Which numbers a command line may ask for, and how invalid arguments are told.
use Rattle.std.specs.Prelude.{◌≡◌, ◌≤◌, ℕ, List, string_bytes}
use Rattle.rounds_plan.specs.Configs.{most_rounds}
use Rattle.app_jobs.specs.declared.job.Job.{Job}
use Rattle.app_jobs.specs.declared.job.Job.TheVariants.{Check, Lockstep, Run, Replay, Compare}
use Rattle.app_words.specs.declared.request.UsageFault.{UsageFault}
use Rattle.app_words.specs.declared.request.UsageFault.TheVariants as fault

-- the numbers of the job are within their limits: a round is at most 1000000000, and 1 to 64 workers are asked for
abbrev pub IsWithinLimits : Job → Type 0
IsWithinLimits Check = Unit {0}
IsWithinLimits (Lockstep rounds) = rounds ≤ most_rounds
IsWithinLimits (Run rounds workers traced) = (rounds ≤ most_rounds) × (1 ≤ workers) × (workers ≤ 64)
IsWithinLimits (Replay stop) = stop ≤ most_rounds
IsWithinLimits (Compare rounds workers) = (rounds ≤ most_rounds) × (1 ≤ workers) × (workers ≤ 64)

-- an invalid argument, told by the name of the option or the argument; running out of memory for that name may come in their place
abbrev pub IsInvalidArgument : List ℕ → UsageFault → Type 0
IsInvalidArgument name (fault.Help text) = ⊥
IsInvalidArgument name (fault.Usage text) = string_bytes text ≡ name
IsInvalidArgument name fault.Memory = Unit {0}

-- Which numbers requests may have.
use Rattle.std.specs.Prelude.{◌≤◌, ℕ, IfSome}
use Rattle.rounds_plan.specs.Configs.{most_rounds}
use Rattle.run_counts.specs.Ensembles.{most_runs}
use Rattle.app_commands.specs.Requests.{AreThreadsWithin}
use Rattle.app_rounds.specs.declared.large_request.LargeRequest.{LargeRequest}
use Rattle.app_rounds.specs.declared.large_request.LargeRequest.TheVariants.{Info, Lockstep, Watch, Settle}
use Rattle.app_rounds.specs.declared.sweep.Sweep.{Sweep}

-- rounds are counted up to the last one that there is, and shared among 1 to 1024 threads
abbrev pub IsLargeWithin : LargeRequest → Type 0
IsLargeWithin (Info network) = Unit {0}
IsLargeWithin (Lockstep request) = (request.rounds ≤ most_rounds) × AreThreadsWithin request.texts
IsLargeWithin (Watch texts span view) = AreThreadsWithin texts
IsLargeWithin (Settle request) = (request.limit ≤ most_rounds) × AreThreadsWithin request.texts

-- there is a mean of so many runs: of one at least
abbrev pub IsMeanSize : ℕ → Type 0
IsMeanSize n = (1 ≤ n) × (n ≤ most_runs)

-- there is a run at least, and where means are asked for, each is of as many runs as there is a mean of
abbrev pub HasRuns : Sweep → Type 0
HasRuns sweep = (1 ≤ sweep.runs) × IfSome sweep.means IsMeanSize

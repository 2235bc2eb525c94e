-- Why a run is refused.
use Rattle.std.specs.Prelude.{◌≡◌, ℕ, ◌<◌, ◌==◌, ◌||◌, nat_lt, min, if◌then◌else◌, length, Option, Some, None, MatchOption, ⊤}
use Rattle.rounds_plan.specs.Configs.{most_rounds}
use Rattle.rounds_plan.specs.Plans.{PlanView}
use Rattle.unison_trace.specs.Histories.{most_steps}
use Rattle.unison_trace.specs.Traces.{needed}
use Rattle.unison_pool.specs.declared.fault.RunFault.{RunFault}
use Rattle.unison_pool.specs.declared.fault.RunFault.TheVariants.{WorkerCount, StopTooLarge, NoThread, TraceFull, Foreign, Unfinished, Memory, StopBelowStart}

-- the greatest number of workers
abbrev pub most_workers : ℕ
most_workers = 64

-- why a run isn't begun: the first case that holds
abbrev pub opening_refusal : PlanView → ℕ → ℕ → Option RunFault
opening_refusal plan stop workers =
    if (workers == 0) || nat_lt most_workers workers then Some WorkerCount
    else if nat_lt most_rounds stop then Some StopTooLarge
    else if nat_lt stop plan.start then Some StopBelowStart
    else None

-- a trace was asked, this is its limit, cut at the greatest, and it is below the number of steps to the stop
abbrev pub IsTooSmall : PlanView → ℕ → Option ℕ → ℕ → Type 0
IsTooSmall plan stop None limit = ⊥
IsTooSmall plan stop (Some asked) limit = (limit ≡ min asked most_steps) × (limit < needed plan stop)

-- what the fault with which a run that was begun ends says of its arguments
abbrev pub Ends : PlanView → ℕ → Option ℕ → RunFault → Type 0
Ends plan stop trace WorkerCount = ⊥
Ends plan stop trace StopTooLarge = ⊥
Ends plan stop trace NoThread = ⊤
Ends plan stop trace (TraceFull limit) = IsTooSmall plan stop trace limit
Ends plan stop trace Foreign = ⊤
Ends plan stop trace (Unfinished node moves) = (node < length plan.network) × (moves < stop)
Ends plan stop trace Memory = ⊤
Ends plan stop trace StopBelowStart = ⊥

-- the refusal of a run: why it isn't begun, or with what it ended
abbrev pub Refuses : PlanView → ℕ → ℕ → Option ℕ → RunFault → Type 0
Refuses plan stop workers trace fault =
    MatchOption (opening_refusal plan stop workers) (Ends plan stop trace fault) (λ first. fault ≡ first)

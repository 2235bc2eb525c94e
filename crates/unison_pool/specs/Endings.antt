-- What a run answers once its workers have ended.
use Rattle.std.specs.Prelude.{◌≡◌, ℕ, Option, Err, is_some, ⊤}
use Rattle.rounds_plan.specs.Plans.{PlanView}
use Rattle.unison_world.specs.declared.fault.FinishFault.TheVariants as finish
use Rattle.unison_world.specs.Finishing.{IsFinish, IsOf}
use Rattle.unison_trace.specs.declared.fault.LogFault.TheVariants as log
use Rattle.unison_trace.specs.Histories.{History, Log}
use Rattle.unison_pool.specs.declared.fault.RunFault.{RunFault}
use Rattle.unison_pool.specs.declared.fault.RunFault.TheVariants as run
use Rattle.unison_pool.specs.declared.team.Halted.{Halted}
use Rattle.unison_pool.specs.declared.team.Halted.TheVariants as halted
use Rattle.unison_pool.specs.Refusals.{IsTooSmall}

-- where the workers were told to end: a refused thread and running out of memory by their names; a full trace where the limit that was asked is this one and is too small, else foreign
abbrev pub IsHaltAnswer : PlanView → ℕ → Option ℕ → Halted → RunFault → Type 0
IsHaltAnswer plan stop trace halted.NoThread fault = fault ≡ run.NoThread
IsHaltAnswer plan stop trace (halted.Fault log.Memory) fault = fault ≡ run.Memory
IsHaltAnswer plan stop trace (halted.Fault (log.TraceFull limit)) fault =
    (IsTooSmall plan stop trace limit → fault ≡ run.TraceFull limit) × ((IsTooSmall plan stop trace limit → ⊥) → fault ≡ run.Foreign)

-- steps are stored exactly where a trace was asked
abbrev pub IsAsAsked : Option ℕ → Option Log → Type 0
IsAsAsked trace stored = is_some stored ≡ is_some trace

-- where they were not: foreign where plan, stop or the presence of a trace is not what was asked, else the least node below the stop
abbrev pub IsFinishAnswer : History → PlanView → ℕ → Option ℕ → RunFault → Type 0
IsFinishAnswer h plan stop trace run.Foreign = IsOf h.world plan stop → IsAsAsked trace h.log → ⊥
IsFinishAnswer h plan stop trace (run.Unfinished node moves) =
    IsAsAsked trace h.log × IsFinish h.world plan stop (Err (finish.Unfinished node moves))
IsFinishAnswer h plan stop trace run.Memory = ⊤
IsFinishAnswer h plan stop trace fault = ⊥

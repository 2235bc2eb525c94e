-- Why a step is refused.
use Rattle.std.specs.Prelude.{◌≡◌, ◌<◌, Option, Some, None, length}
use Rattle.unison_trace.specs.declared.fault.LogFault.{LogFault}
use Rattle.unison_trace.specs.declared.fault.LogFault.TheVariants.{TraceFull, Memory}
use Rattle.unison_trace.specs.Histories.{Log}

-- as many steps are stored as the limit allows, and it is named; or memory ran out where there was room; neither comes where no steps are stored
abbrev pub Refuses : Option Log → LogFault → Type 0
Refuses None fault = ⊥
Refuses (Some log) (TraceFull limit) = (limit ≡ log.limit) × (length log.steps ≡ log.limit)
Refuses (Some log) Memory = length log.steps < log.limit

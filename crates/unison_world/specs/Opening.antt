-- Opening a world.
use Rattle.std.specs.Prelude.{ℕ, nat_lt, if◌then◌else◌, Result, Ok, Err}
use Rattle.rounds_plan.specs.Configs.{most_rounds}
use Rattle.rounds_plan.specs.Plans.{PlanView}
use Rattle.unison_world.specs.declared.fault.OpenFault.{OpenFault}
use Rattle.unison_world.specs.declared.fault.OpenFault.TheVariants.{StopTooLarge, StopBelowStart}
use Rattle.unison_world.specs.View.{WorldView, opened}

-- the opened world, or why there is none
abbrev pub opening_of : PlanView → ℕ → Result WorldView OpenFault
opening_of plan stop =
    if nat_lt most_rounds stop then Err StopTooLarge
    else if nat_lt stop plan.start then Err StopBelowStart
    else Ok (opened plan stop)

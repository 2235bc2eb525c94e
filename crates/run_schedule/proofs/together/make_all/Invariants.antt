use Rattle.std.proofs.Common.{take}
use Rattle.run_schedule.proofs.Driven.{HasMade}
use Rattle.run_schedule.proofs.together.make_all.Given as goal

abbrev pub invariant-loop-step : goal.invariant-loop-step
invariant-loop-step l = HasMade l.initial.walk l.walk (take l.step-index l.steps)

use Rattle.std.proofs.Common.{◌≡◌, drop}
use Rattle.run_picture.specs.Ticks.{first_step}
use Rattle.run_picture.proofs.axes.first_step.Given as goal

abbrev pub invariant-loop-step : goal.invariant-loop-step
invariant-loop-step l = first_step (drop l.step-index l.steps) l.distance ≡ first_step l.steps l.distance

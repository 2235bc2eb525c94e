use Rattle.std.proofs.Common.{◌≡◌, map, take}
use Rattle.serde_json.specs.View.{view}
use Rattle.run_page.specs.Pages.{step_data}
use Rattle.run_page.proofs.steps.step_values.Given as goal

abbrev pub invariant-loop-step : goal.invariant-loop-step
invariant-loop-step l = map view l.items.items ≡ map step_data (take l.step-index l.steps)

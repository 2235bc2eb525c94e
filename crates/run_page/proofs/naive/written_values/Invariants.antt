use Rattle.std.proofs.Common.{◌≡◌, map, take}
use Rattle.serde_json.specs.View.{view}
use Rattle.run_page.specs.Pages.{written_data}
use Rattle.run_page.proofs.naive.written_values.Given as goal

abbrev pub invariant-loop-state : goal.invariant-loop-state
invariant-loop-state l = map view l.items.items ≡ map (written_data l.fields) (take l.state-index l.states)

use Rattle.std.proofs.Common.{◌≡◌, ◌++◌, drop, map}
use Rattle.serde_json.specs.View.{view}
use Rattle.run_page.specs.Pages.{shown_values, whole}
use Rattle.run_page.proofs.parts.shown_array.Given as goal

abbrev pub invariant-loop-state : goal.invariant-loop-state
invariant-loop-state l =
    map view l.items.items ++ map whole (shown_values l.fields (drop l.state-index l.states)) ≡ map whole (shown_values l.fields l.states)

use Rattle.std.proofs.Common.{◌≡◌, ◌++◌, drop, map}
use Rattle.serde_json.specs.View.{view}
use Rattle.run_page.specs.Pages.{shown, whole}
use Rattle.run_page.proofs.parts.put_shown.Given as goal

abbrev pub invariant-loop-place : goal.invariant-loop-place
invariant-loop-place l =
    map view l.items.items ++ map whole (shown (drop l.place-index l.fields) l.state) ≡ map view l.initial.items.items ++ map whole (shown l.fields l.state)

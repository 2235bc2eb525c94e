use Rattle.std.proofs.Common.{◌≡◌, ℕ, map, take}
use Rattle.serde_json.specs.View.{view}
use Rattle.run_page.specs.Pages.{texts, value_names}
use Rattle.run_page.proofs.head.legend.Given as goal

abbrev pub invariant-loop-place : goal.invariant-loop-place
invariant-loop-place l = map view l.items.items ≡ map (λ (k : ℕ). texts (value_names l.look k)) (take l.place-index l.look.fields.now)

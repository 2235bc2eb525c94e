use Rattle.std.proofs.Common.{◌≡◌, ℕ, [], map, slice_index_or, take}
use Rattle.rule_check.specs.Value.{names_of}
use Rattle.serde_json.specs.View.{view}
use Rattle.run_page.specs.Pages.{numbers}
use Rattle.run_page.proofs.head.field_names.Given as goal

abbrev pub invariant-loop-place : goal.invariant-loop-place
invariant-loop-place l = map view l.items.items ≡ map numbers (map (λ (k : ℕ). slice_index_or (names_of l.program) k []) (take l.place-index l.fields))

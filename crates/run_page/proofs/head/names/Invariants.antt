use Rattle.std.proofs.Common.{◌≡◌, map, string_bytes, take}
use Rattle.serde_json.specs.View.{view}
use Rattle.run_page.specs.Pages.{numbers}
use Rattle.run_page.proofs.head.names.Given as goal

abbrev pub invariant-loop-text : goal.invariant-loop-text
invariant-loop-text l = map view l.items.items ≡ map numbers (map string_bytes (take l.text-index l.given))

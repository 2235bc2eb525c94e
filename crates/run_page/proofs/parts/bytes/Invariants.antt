use Rattle.std.proofs.Common.{◌≡◌, map, take}
use Rattle.serde_json.specs.View.{view}
use Rattle.run_page.specs.Pages.{whole}
use Rattle.run_page.proofs.parts.bytes.Given as goal

abbrev pub invariant-loop-byte : goal.invariant-loop-byte
invariant-loop-byte l = map view l.items.items ≡ map whole (take l.byte-index l.byte-items)

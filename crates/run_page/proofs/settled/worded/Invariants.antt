use Rattle.std.proofs.Common.{◌≡◌, ◌∷◌, map, take}
use Rattle.serde_json.specs.Data.{string}
use Rattle.serde_json.specs.View.{view}
use Rattle.run_page.specs.Pages.{whole}
use Rattle.run_page.proofs.settled.worded.Given as goal

abbrev pub invariant-loop-number : goal.invariant-loop-number
invariant-loop-number l = map view l.items.items ≡ string l.fn.word ∷ map whole (take l.number-index l.numbers)

use Rattle.std.proofs.Common.{◌≡◌, ◌++◌, drop}
use Rattle.model_text.specs.View.{items_of}
use Rattle.model_rules.specs.Models.{draws_of}
use Rattle.model_rules.proofs.places.draw_places.Given as goal

abbrev pub invariant-loop-item : goal.invariant-loop-item
invariant-loop-item l = l.places.items ++ draws_of (items_of (drop l.item-index l.items)) ≡ draws_of (items_of l.items)

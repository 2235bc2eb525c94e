use Rattle.std.proofs.Common.{◌≡◌, drop}
use Rattle.model_text.specs.View.{items_of}
use Rattle.model_rules.specs.Naming.{extra_state}
use Rattle.model_rules.proofs.naming.state_too_many.Given as goal

abbrev pub invariant-loop-item : goal.invariant-loop-item
invariant-loop-item l = extra_state (items_of (drop l.item-index l.items)) ≡ extra_state (items_of l.items)

use Rattle.std.proofs.Common.{◌≡◌, drop}
use Rattle.model_text.specs.View.{items_of}
use Rattle.model_rules.specs.States.{members_of}
use Rattle.model_rules.proofs.members.members_of.Given as goal

abbrev pub invariant-loop-item : goal.invariant-loop-item
invariant-loop-item l = members_of (items_of (drop l.item-index l.items)) l.name ≡ members_of (items_of l.items) l.name

use Rattle.std.proofs.Common.{◌≡◌, ◌++◌, drop}
use Rattle.model_text.specs.View.{items_of}
use Rattle.model_rules.specs.ScopeView.{named}
use Rattle.model_rules.specs.Naming.{names_as}
use Rattle.model_rules.proofs.naming.names_in.Given as goal

abbrev pub invariant-loop-item : goal.invariant-loop-item
invariant-loop-item l = named l.names.items ++ names_as l.kind (items_of (drop l.item-index l.items)) ≡ names_as l.kind (items_of l.items)

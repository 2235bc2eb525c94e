use Rattle.std.proofs.Common.{◌≡◌, ◌++◌, drop}
use Rattle.model_text.specs.View.{items_of}
use Rattle.model_rules.specs.ScopeView.{named}
use Rattle.model_rules.specs.Naming.{names_given}
use Rattle.model_rules.proofs.naming.all_names.Given as goal

abbrev pub invariant-loop-item : goal.invariant-loop-item
invariant-loop-item l = named l.names.items ++ names_given (items_of (drop l.item-index l.items)) ≡ names_given (items_of l.items)

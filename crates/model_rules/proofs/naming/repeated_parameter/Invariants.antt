use Rattle.std.proofs.Common.{◌≡◌, drop}
use Rattle.model_text.specs.View.{items_of}
use Rattle.model_rules.specs.Models.{bare}
use Rattle.model_rules.specs.ScopeView.{named}
use Rattle.model_rules.specs.Naming.{parameter_twice}
use Rattle.model_rules.proofs.naming.repeated_parameter.Given as goal

abbrev pub invariant-loop-item : goal.invariant-loop-item
invariant-loop-item l = parameter_twice (bare (named l.names)) (items_of (drop l.item-index l.items)) ≡ parameter_twice (bare (named l.names)) (items_of l.items)

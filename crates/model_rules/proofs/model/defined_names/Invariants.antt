use Rattle.std.proofs.Common.{◌≡◌, ◌++◌, drop}
use Rattle.std.specs.Prelude.{map, string_bytes}
use Rattle.model_text.specs.View.{items_of}
use Rattle.model_rules.specs.Definitions.{names_defined}
use Rattle.model_rules.proofs.model.defined_names.Given as goal

abbrev pub invariant-loop-item : goal.invariant-loop-item
invariant-loop-item l = map string_bytes l.names.items ++ names_defined (items_of (drop l.item-index l.items)) ≡ names_defined (items_of l.items)

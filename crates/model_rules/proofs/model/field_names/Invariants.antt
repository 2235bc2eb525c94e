use Rattle.std.proofs.Common.{◌≡◌, ◌++◌, drop}
use Rattle.std.specs.Prelude.{map, string_bytes}
use Rattle.model_text.specs.View.{items_of}
use Rattle.model_rules.specs.Models.{fields_of}
use Rattle.model_rules.proofs.model.field_names.Given as goal

abbrev pub invariant-loop-item : goal.invariant-loop-item
invariant-loop-item l = map string_bytes l.names.items ++ fields_of (items_of (drop l.item-index l.items)) ≡ fields_of (items_of l.items)

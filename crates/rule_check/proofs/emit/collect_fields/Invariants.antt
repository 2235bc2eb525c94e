use Rattle.rule_lang.specs.View.{items_of}
use Rattle.std.proofs.Common.{◌≡◌, ◌++◌, drop}
use Rattle.rule_check.specs.Items.{fields_of}
use Rattle.rule_check.proofs.emit.collect_fields.Given as goal

abbrev pub invariant-loop-item : goal.invariant-loop-item
invariant-loop-item l = l.fields.items ++ fields_of (items_of (drop l.item-index l.items)) ≡ fields_of (items_of l.items)

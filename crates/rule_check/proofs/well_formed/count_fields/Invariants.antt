use Rattle.rule_lang.specs.View.{items_of}
use Rattle.std.proofs.Common.{◌≡◌, ◌≤◌, ◌+◌, length, drop}
use Rattle.rule_check.specs.Items.{fields_of}
use Rattle.rule_check.proofs.well_formed.count_fields.Given as goal

abbrev pub invariant-loop-item : goal.invariant-loop-item
invariant-loop-item l = record {
  below : l.count ≤ l.item-index;
  rest : l.count + length (fields_of (items_of (drop l.item-index l.items))) ≡ length (fields_of (items_of l.items));
}

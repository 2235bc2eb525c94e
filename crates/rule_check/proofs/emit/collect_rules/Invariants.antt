use Rattle.rule_lang.specs.View.{items_of}
use Rattle.std.proofs.Common.{◌≡◌, ◌++◌, ◌+◌, ◌≤◌, length, drop, map}
use Rattle.rule_check.specs.WellFormed.{all_parts}
use Rattle.rule_check.specs.Gathering.{numbered}
use Rattle.rule_check.specs.Items.{nexts_of}
use Rattle.rule_check.specs.Shapes.{rule_shape}
use Rattle.rule_check.specs.Compiled.{rule_code}
use Rattle.rule_check.specs.Fields.{field_names}
use Rattle.rule_check.proofs.emit.collect_rules.Given as goal

abbrev pub invariant-loop-item : goal.invariant-loop-item
invariant-loop-item l = record {
  sums : l.first + length (all_parts (nexts_of (items_of (drop l.item-index l.items)))) ≤ 16;
  rest : map rule_shape l.rules.items ++ map (rule_code (field_names l.fields)) (numbered l.first (nexts_of (items_of (drop l.item-index l.items)))) ≡ map (rule_code (field_names l.fields)) (numbered 0 (nexts_of (items_of l.items)));
}

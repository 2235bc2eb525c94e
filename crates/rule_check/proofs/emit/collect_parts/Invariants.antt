use Rattle.rule_lang.specs.View.{items_of}
use Rattle.std.proofs.Common.{◌≡◌, ◌++◌, drop, map}
use Rattle.std.specs.Prelude.{false}
use Rattle.std.specs.List.{list_any}
use Rattle.rule_check.specs.WellFormed.{all_parts, nests}
use Rattle.rule_check.specs.Items.{nexts_of}
use Rattle.rule_check.specs.Shapes.{part_shape}
use Rattle.rule_check.specs.Compiled.{part_code}
use Rattle.rule_check.specs.Fields.{field_names}
use Rattle.rule_check.proofs.emit.collect_parts.Given as goal

abbrev pub invariant-loop-item : goal.invariant-loop-item
invariant-loop-item l = record {
  flat : list_any (λ n. nests n.body) (nexts_of (items_of (drop l.item-index l.items))) ≡ false;
  rest : map part_shape l.gatherers.items ++ map (part_code (field_names l.fields)) (all_parts (nexts_of (items_of (drop l.item-index l.items)))) ≡ map (part_code (field_names l.fields)) (all_parts (nexts_of (items_of l.items)));
}

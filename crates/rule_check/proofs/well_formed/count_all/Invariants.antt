use Rattle.rule_lang.specs.View.{items_of}
use Rattle.std.proofs.Common.{◌≡◌, ◌+◌, ◌≤◌, drop, min, length}
use Rattle.rule_check.specs.WellFormed.{all_parts}
use Rattle.rule_check.specs.Table.{M}
use Rattle.rule_check.specs.Items.{nexts_of}
use Rattle.rule_check.proofs.well_formed.count_all.Given as goal

abbrev pub invariant-loop-item : goal.invariant-loop-item
invariant-loop-item l = record { fits : l.count ≤ M; rest : min (l.count + length (all_parts (nexts_of (items_of (drop l.item-index l.items))))) M ≡ min (length (all_parts (nexts_of (items_of l.items)))) M }

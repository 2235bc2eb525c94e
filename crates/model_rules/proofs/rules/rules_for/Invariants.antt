use Rattle.std.proofs.Common.{◌≡◌, [], take}
use Rattle.std.specs.Prelude.{map, string_bytes, None}
use Rattle.std.specs.List.{AllByRecursion}
use Rattle.model_text.specs.View.{items_of}
use Rattle.rule_lang.specs.View.{items_of as rules_of}
use Rattle.model_rules.specs.ScopeView.{frame_of, later_of}
use Rattle.model_rules.specs.Faults.{rules_made, items_fault}
use Rattle.model_rules.specs.Bounds.{IsFitRule}
use Rattle.model_rules.specs.Counts.{IsCounted}
use Rattle.model_rules.specs.Expansions.{Expands}
use Rattle.model_rules.proofs.rules.rules_for.Given as goal

abbrev pub invariant-loop-item : goal.invariant-loop-item
invariant-loop-item l =
    record {
      expands : Expands (items_of l.items) (frame_of l.scope) (items_of (take l.item-index l.items)) (rules_of l.expansion.rules.items);
      fit : AllByRecursion (IsFitRule (map string_bytes l.scope.fields.items)) (rules_of l.expansion.rules.items);
      counted : IsCounted l.expansion;
      made : rules_of l.expansion.rules.items ≡ rules_made (frame_of l.scope) (items_of (take l.item-index l.items));
      faultless : items_fault (items_of l.items) (frame_of l.scope) (later_of l.scope) [] (items_of (take l.item-index l.items)) ≡ None;
    }

use Rattle.std.proofs.Common.{◌≡◌, ◌++◌, drop}
use Rattle.model_text.specs.View.{items_of}
use Rattle.model_rules.specs.Lines.{lines_of}
use Rattle.model_rules.proofs.lines.rule_lines.Given as goal

abbrev pub invariant-loop-item : goal.invariant-loop-item
invariant-loop-item l = l.lines.items ++ lines_of l.text (items_of (drop l.item-index l.items)) ≡ lines_of l.text (items_of l.items)

use Rattle.std.proofs.Common.{◌≡◌, ◌++◌, drop, map}
use Rattle.rule_lang.specs.View.{items_of}
use Rattle.run_cuts.specs.Operators.{operators_of}
use Rattle.run_cuts.specs.Counting.{operator_of}
use Rattle.run_cuts.proofs.operators.operators_in.Given as goal

abbrev pub invariant-loop-item : goal.invariant-loop-item
invariant-loop-item l = map operator_of l.found.items ++ operators_of (items_of (drop l.item-index l.items)) ≡ operators_of (items_of l.items)

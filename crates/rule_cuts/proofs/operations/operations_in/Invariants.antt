use Rattle.std.specs.Prelude.{All}
use Rattle.std.proofs.Common.{◌≡◌, ◌++◌, drop, map}
use Rattle.rule_lang.specs.View.{items_of}
use Rattle.rule_cuts.specs.Operations.{HasRanges, operation_of, operations_of}
use Rattle.rule_cuts.proofs.operations.operations_in.Given as goal

abbrev pub invariant-loop-item : goal.invariant-loop-item
invariant-loop-item l = record {
  all : map operation_of l.found.items ++ operations_of (items_of (drop l.item-index l.items)) ≡ operations_of (items_of l.items);
  ranges : All (HasRanges l.limits) l.found.items;
}

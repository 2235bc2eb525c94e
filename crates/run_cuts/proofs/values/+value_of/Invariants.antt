use Rattle.std.proofs.Common.{◌≡◌, map, take}
use Rattle.rule_lang.specs.View.{tree_of}
use Rattle.rule_check.specs.Table.{gather}
use Rattle.rule_check.specs.Value.{value}
use Rattle.run_cuts.specs.Counting.{here_of}
use Rattle.run_cuts.proofs.values.+value_of.Given as goal

abbrev pub invariant-loop-other : goal.invariant-loop-other
invariant-loop-other l = l.so_far ≡ gather l.agg (map (value (here_of l.node) (tree_of l.body.value)) (take l.other-index l.other-items))

use Rattle.std.proofs.Common.{◌≡◌, ◌≤◌, ◌*◌, map, take}
use Rattle.std.specs.Prelude.{sum}
use Rattle.rule_lang.specs.View.{tree_of}
use Rattle.rule_check.specs.Value.{value}
use Rattle.run_cuts.specs.Counting.{here_of}
use Rattle.run_cuts.proofs.values.plain_total.Given as goal

abbrev pub invariant-loop-near : goal.invariant-loop-near
invariant-loop-near l = record {
  plain : l.sum ≡ sum (map (value (here_of l.node) (tree_of l.e)) (take l.near-index l.near-items));
  fits : l.sum ≤ l.near-index * 4294967295;
}

use Rattle.std.proofs.Common.{◌≡◌, ◌≤◌, map}
use Rattle.std.specs.List.{count_by}
use Rattle.link_net.specs.Neighbours.{numbers_below}
use Rattle.run_naive.specs.Differences.{differs}
use Rattle.run_naive.specs.Keeping.{shown}
use Rattle.run_naive.proofs.telling.differing.Given as goal

abbrev pub invariant-loop-node : goal.invariant-loop-node
invariant-loop-node l = record {
  count : l.count ≡ count_by (differs l.plan (map shown l.nodes)) (numbers_below l.node);
  few : l.count ≤ l.node;
}

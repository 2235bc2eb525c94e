use Rattle.std.proofs.Common.{◌≡◌, map}
use Rattle.run_naive.specs.Differences.{nodes_after}
use Rattle.run_naive.specs.Keeping.{IsKept, past_of, shown}
use Rattle.run_naive.proofs.stepping.nodes_after.Given as goal

abbrev pub invariant-loop-index : goal.invariant-loop-index
invariant-loop-index l = record {
  shown : map shown l.nodes.items ≡ nodes_after l.plan l.stop l.steps l.index;
  kept : IsKept l.plan (nodes_after l.plan l.stop l.steps) l.index (map past_of l.nodes.items);
}

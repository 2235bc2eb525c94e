use Rattle.std.proofs.Common.{◌≡◌, ◌++◌, drop, map}
use Rattle.run_naive.specs.Differences.{nodes_after}
use Rattle.run_naive.specs.Keeping.{shown}
use Rattle.run_naive.specs.Writing.{all_written, written_from}
use Rattle.run_naive.proofs.writing.written_on.Given as goal

abbrev pub invariant-loop-index : goal.invariant-loop-index
invariant-loop-index l =
    let here = nodes_after l.plan l.stop l.steps l.index in
    record {
      shown : map shown l.nodes.items ≡ here;
      states : l.states.items ++ written_from l.plan l.stop here (drop l.index l.steps) ≡ all_written l.plan l.stop l.steps;
    }

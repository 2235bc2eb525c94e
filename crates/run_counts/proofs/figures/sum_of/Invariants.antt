use Rattle.std.proofs.Common.{◌≡◌, ◌≤◌, ◌+◌, ◌*◌, drop}
use Rattle.std.specs.Prelude.{sum}
use Rattle.rounds_walk.specs.Columns.{column}
use Rattle.run_counts.proofs.figures.sum_of.Given as goal

abbrev pub invariant-loop-state : goal.invariant-loop-state
invariant-loop-state l = record {
  few : l.total ≤ l.state-index * 4294967295;
  sum : l.total + sum (column l.field (drop l.state-index l.states)) ≡ sum (column l.field l.states);
}

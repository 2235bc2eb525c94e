use Rattle.std.proofs.Common.{◌≡◌, ◌≤◌, ◌++◌, drop, length, map}
use Rattle.run_counts.specs.MeanTables.{number_in, rows_at}
use Rattle.run_counts.proofs.mean_table.numbers_at.Given as goal

abbrev pub invariant-loop-run : goal.invariant-loop-run
invariant-loop-run l = record {
  numbers : l.numbers.items ++ map (number_in l.source) (rows_at l.place (drop l.run-index l.runs)) ≡ map (number_in l.source) (rows_at l.place l.runs);
  few : length l.numbers.items ≤ l.run-index;
}

use Rattle.std.proofs.Common.{◌≡◌, ◌≤◌, ◌++◌, drop, length, map}
use Rattle.run_counts.specs.MeanTables.{going_at}
use Rattle.run_counts.specs.Rows.{RowView}
use Rattle.run_counts.proofs.mean_table.rounds_at.Given as goal

abbrev pub invariant-loop-run : goal.invariant-loop-run
invariant-loop-run l = record {
  rounds : l.rounds.items ++ map (λ (r : RowView). r.round) (going_at l.place (drop l.run-index l.runs)) ≡ map (λ (r : RowView). r.round) (going_at l.place l.runs);
  few : length l.rounds.items ≤ l.run-index;
}

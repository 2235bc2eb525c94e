use Rattle.std.proofs.Common.{◌≡◌, drop, max}
use Rattle.run_counts.specs.MeanTables.{longest}
use Rattle.run_counts.proofs.mean_table.longest.Given as goal

abbrev pub invariant-loop-run : goal.invariant-loop-run
invariant-loop-run l = max l.most (longest (drop l.run-index l.runs)) ≡ longest l.runs

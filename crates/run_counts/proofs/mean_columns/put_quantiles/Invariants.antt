use Rattle.std.proofs.Common.{◌≡◌, ◌++◌, drop, map}
use Rattle.run_counts.specs.MeanTables.{quantile_column}
use Rattle.run_counts.proofs.mean_columns.put_quantiles.Given as goal

abbrev pub invariant-loop-percent : goal.invariant-loop-percent
invariant-loop-percent l =
    l.columns.items ++ map (quantile_column l.source) (drop l.percent-index l.quantiles)
    ≡ l.initial.columns.items ++ map (quantile_column l.source) l.quantiles

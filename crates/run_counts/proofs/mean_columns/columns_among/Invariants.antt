use Rattle.std.proofs.Common.{◌≡◌, ◌++◌, drop}
use Rattle.std.specs.List.{flat_map}
use Rattle.run_counts.specs.MeanTables.{columns_for}
use Rattle.run_counts.proofs.mean_columns.columns_among.Given as goal

abbrev pub invariant-loop-source : goal.invariant-loop-source
invariant-loop-source l = l.columns.items ++ flat_map (columns_for l.quantiles) (drop l.source-index l.sources) ≡ flat_map (columns_for l.quantiles) l.sources

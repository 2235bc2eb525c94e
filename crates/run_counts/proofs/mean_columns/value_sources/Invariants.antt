use Rattle.std.proofs.Common.{◌≡◌, ◌++◌, drop, map}
use Rattle.run_counts.specs.declared.mean_columns.Source.TheVariants.{Nodes}
use Rattle.run_counts.proofs.mean_columns.value_sources.Given as goal

abbrev pub invariant-loop-value : goal.invariant-loop-value
invariant-loop-value l = l.sources.items ++ map Nodes (drop l.value-index l.values) ≡ map Nodes l.values

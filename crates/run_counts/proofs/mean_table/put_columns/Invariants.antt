use Rattle.std.proofs.Common.{◌≡◌, ◌++◌, drop, map, string_bytes}
use Rattle.std.specs.List.{flat_map}
use Rattle.rule_check.specs.Value.{names_of}
use Rattle.run_counts.specs.declared.mean_columns.Column.{Column}
use Rattle.run_counts.specs.MeanTables.{cell_of, number_in, rows_at}
use Rattle.run_counts.proofs.mean_table.put_columns.Given as goal

abbrev pub invariant-loop-column : goal.invariant-loop-column
invariant-loop-column l =
    string_bytes l.out ++ flat_map (λ (c : Column). cell_of l.means.counting.now.format l.means.counting.now.names.now (names_of l.means.program.now) c (map (number_in c.source) (rows_at l.place l.means.runs.now))) (drop l.column-index l.means.columns.now)
    ≡ string_bytes l.initial.out ++ flat_map (λ (c : Column). cell_of l.means.counting.now.format l.means.counting.now.names.now (names_of l.means.program.now) c (map (number_in c.source) (rows_at l.place l.means.runs.now))) l.means.columns.now

use Rattle.std.proofs.Common.{◌≡◌, ◌++◌, drop, string_bytes}
use Rattle.std.specs.List.{flat_map}
use Rattle.rule_check.specs.Value.{names_of}
use Rattle.run_counts.specs.MeanTables.{heading_text}
use Rattle.run_counts.proofs.mean_columns.put_all_headings.Given as goal

abbrev pub invariant-loop-column : goal.invariant-loop-column
invariant-loop-column l =
    string_bytes l.out ++ flat_map (heading_text l.names (names_of l.program)) (drop l.column-index l.columns)
    ≡ string_bytes l.initial.out ++ flat_map (heading_text l.names (names_of l.program)) l.columns

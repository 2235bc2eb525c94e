use Rattle.std.proofs.Common.{◌≡◌, ◌++◌, drop, string_bytes}
use Rattle.std.specs.List.{flat_map}
use Rattle.rule_check.specs.Value.{names_of}
use Rattle.run_counts.specs.RunTables.{run_text}
use Rattle.run_counts.proofs.run_table.put_runs.Given as goal

abbrev pub invariant-loop-run : goal.invariant-loop-run
invariant-loop-run l =
    string_bytes l.out ++ flat_map (run_text l.table.counting.now.format l.table.counting.now.names.now (names_of l.table.program.now) l.table.values.now) (drop l.run-index l.runs)
    ≡ string_bytes l.initial.out ++ flat_map (run_text l.table.counting.now.format l.table.counting.now.names.now (names_of l.table.program.now) l.table.values.now) l.runs

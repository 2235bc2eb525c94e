use Rattle.std.proofs.Common.{◌≡◌, ◌++◌, drop, string_bytes}
use Rattle.std.specs.List.{flat_map}
use Rattle.rule_check.specs.Value.{names_of}
use Rattle.run_counts.specs.Tables.{row_text}
use Rattle.run_counts.proofs.lines.put_rows.Given as goal

abbrev pub invariant-loop-row : goal.invariant-loop-row
invariant-loop-row l =
    string_bytes l.out ++ flat_map (row_text l.counting.format l.counting.names.now l.head (names_of l.program) l.values) (drop l.row-index l.rows)
    ≡ string_bytes l.initial.out ++ flat_map (row_text l.counting.format l.counting.names.now l.head (names_of l.program) l.values) l.rows

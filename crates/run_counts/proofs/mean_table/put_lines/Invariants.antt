use Rattle.std.proofs.Common.{◌≡◌, ◌++◌, ◌-◌, string_bytes}
use Rattle.std.specs.List.{flat_map, range_with_len}
use Rattle.rule_check.specs.Value.{names_of}
use Rattle.run_counts.specs.MeanTables.{line_at, longest}
use Rattle.run_counts.proofs.mean_table.put_lines.Given as goal

abbrev pub invariant-loop-place : goal.invariant-loop-place
invariant-loop-place l =
    string_bytes l.out
    ++ flat_map (line_at l.means.counting.now.format l.means.head.now l.means.counting.now.names.now (names_of l.means.program.now) l.means.columns.now l.means.counting.now.until l.means.runs.now) (range_with_len l.place (longest l.means.runs.now - l.place))
    ≡ string_bytes l.initial.out ++ flat_map (line_at l.means.counting.now.format l.means.head.now l.means.counting.now.names.now (names_of l.means.program.now) l.means.columns.now l.means.counting.now.until l.means.runs.now) (range_with_len 0 (longest l.means.runs.now))

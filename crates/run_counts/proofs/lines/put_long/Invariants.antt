use Rattle.std.proofs.Common.{◌≡◌, ◌++◌, drop, string_bytes}
use Rattle.std.specs.List.{flat_map}
use Rattle.rule_check.specs.Value.{names_of}
use Rattle.run_counts.specs.Tables.{long_text}
use Rattle.run_counts.proofs.lines.put_long.Given as goal

abbrev pub invariant-loop-count : goal.invariant-loop-count
invariant-loop-count l =
    string_bytes l.out ++ flat_map (long_text l.counting.format l.counting.names.now l.head (names_of l.program) l.row) (drop l.count-index l.row.counts)
    ≡ string_bytes l.initial.out ++ flat_map (long_text l.counting.format l.counting.names.now l.head (names_of l.program) l.row) l.row.counts

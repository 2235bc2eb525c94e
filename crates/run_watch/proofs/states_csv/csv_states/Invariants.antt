use Rattle.std.proofs.Common.{◌≡◌, ◌++◌, drop, length, string_bytes}
use Rattle.rule_check.specs.Value.{names_of}
use Rattle.run_watch.specs.StatesCsv.{csv_lines, csv_text}
use Rattle.run_watch.proofs.states_csv.csv_states.Given as goal

abbrev pub invariant-loop-node : goal.invariant-loop-node
invariant-loop-node l =
    string_bytes l.out ++ csv_lines l.names (length (names_of l.program)) l.node (drop l.node l.states) ≡ csv_text l.names (names_of l.program) l.states

use Rattle.std.proofs.Common.{◌≡◌, ◌++◌, drop, length, string_bytes}
use Rattle.rule_check.specs.Value.{names_of}
use Rattle.report_text.specs.Report.{node_lines, report_text}
use Rattle.report_text.proofs.report_writer.report_states.Given as goal

abbrev pub invariant-loop-node : goal.invariant-loop-node
invariant-loop-node l =
    string_bytes l.out ++ node_lines (names_of l.program) l.node (drop l.node l.states) ≡ report_text (names_of l.program) (record { rounds = l.fn.rounds; fields = length l.program.fields; states = l.states })

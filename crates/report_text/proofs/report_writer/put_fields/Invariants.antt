use Rattle.std.proofs.Common.{◌≡◌, ◌++◌, drop, string_bytes}
use Rattle.rule_check.specs.Value.{names_of}
use Rattle.report_text.specs.Report.{fields_text}
use Rattle.report_text.proofs.report_writer.put_fields.Given as goal

abbrev pub invariant-loop-place : goal.invariant-loop-place
invariant-loop-place l =
    string_bytes l.out ++ fields_text (drop l.place (names_of l.program)) (drop l.place l.state.words) ≡ string_bytes l.initial.out ++ fields_text (names_of l.program) l.state.words

use Rattle.std.proofs.Common.{◌≡◌, ◌+◌, drop}
use Rattle.std.specs.List.{prefix_len}
use Rattle.rule_lang.specs.Tokens.{is_word_byte}
use Rattle.report_files.proofs.tables.first_line.word_length.Given as goal

abbrev pub invariant-loop-place : goal.invariant-loop-place
invariant-loop-place l = l.place + prefix_len is_word_byte (drop l.place l.bytes) ≡ prefix_len is_word_byte l.bytes

use Rattle.std.proofs.Common.{◌≡◌, ◌+◌, drop}
use Rattle.std.specs.List.{prefix_len}
use Rattle.import_formats.specs.dot.Bytes.{is_numeral_byte}
use Rattle.import_formats.proofs.dot.runs.numeral_length.Given as goal

abbrev pub invariant-loop-place : goal.invariant-loop-place
invariant-loop-place l = l.place + prefix_len is_numeral_byte (drop l.place l.bytes) ≡ prefix_len is_numeral_byte l.bytes

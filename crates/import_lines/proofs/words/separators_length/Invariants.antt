use Rattle.std.proofs.Common.{◌≡◌, ◌+◌, drop}
use Rattle.std.specs.List.{prefix_len}
use Rattle.import_lines.specs.Texts.{is_separator}
use Rattle.import_lines.proofs.words.separators_length.Given as goal

abbrev pub invariant-loop-place : goal.invariant-loop-place
invariant-loop-place l = l.place + prefix_len is_separator (drop l.place l.bytes) ≡ prefix_len is_separator l.bytes

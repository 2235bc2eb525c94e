use Rattle.std.proofs.Common.{◌≡◌, ◌≤◌, take}
use Rattle.std.specs.List.{count_by}
use Rattle.std.specs.Char.{is_ascii_digit}
use Rattle.import_formats.proofs.dot.runs.digits.Given as goal

abbrev pub invariant-loop-byte : goal.invariant-loop-byte
invariant-loop-byte l = record { exact : l.count ≡ count_by is_ascii_digit (take l.byte-index l.bytes); bound : l.count ≤ l.byte-index }

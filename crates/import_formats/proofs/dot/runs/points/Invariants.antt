use Rattle.std.proofs.Common.{◌≡◌, ◌≤◌, take}
use Rattle.std.specs.List.{count_by}
use Rattle.import_formats.specs.dot.Bytes.{is_point}
use Rattle.import_formats.proofs.dot.runs.points.Given as goal

abbrev pub invariant-loop-byte : goal.invariant-loop-byte
invariant-loop-byte l = record { exact : l.count ≡ count_by is_point (take l.byte-index l.bytes); bound : l.count ≤ l.byte-index }

use Rattle.std.proofs.Common.{◌≡◌, drop}
use Rattle.std.specs.List.{list_any}
use Rattle.import_lines.specs.Parts.{is_control}
use Rattle.import_lines.proofs.parts.has_control.Given as goal

abbrev pub invariant-loop-byte : goal.invariant-loop-byte
invariant-loop-byte l = list_any is_control (drop l.byte-index l.bytes) ≡ list_any is_control l.bytes

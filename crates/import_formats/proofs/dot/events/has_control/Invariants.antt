use Rattle.std.proofs.Common.{◌≡◌, drop}
use Rattle.std.specs.List.{list_any}
use Rattle.import_formats.specs.dot.Graphs.{is_control}
use Rattle.import_formats.proofs.dot.events.has_control.Given as goal

abbrev pub invariant-loop-byte : goal.invariant-loop-byte
invariant-loop-byte l = list_any is_control (drop l.byte-index l.bytes) ≡ list_any is_control l.bytes

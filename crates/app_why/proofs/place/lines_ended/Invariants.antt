use Rattle.std.proofs.Common.{◌≡◌, ◌≤◌, ◌+◌, drop}
use Rattle.app_why.specs.Places.{lines_ended}
use Rattle.app_why.proofs.place.lines_ended.Given as goal

abbrev pub invariant-loop-byte : goal.invariant-loop-byte
invariant-loop-byte l = record { below : l.count ≤ l.byte-index; rest : l.count + lines_ended (drop l.byte-index l.bytes) ≡ lines_ended l.bytes }

use Rattle.std.proofs.Common.{◌≡◌, ◌+◌, drop, false}
use Rattle.import_formats.specs.dot.Runs.{quote_place}
use Rattle.import_formats.proofs.dot.runs.quote_place.Given as goal

abbrev pub invariant-loop-place : goal.invariant-loop-place
invariant-loop-place l = l.place + quote_place l.escaped (drop l.place l.bytes) ≡ quote_place false l.bytes

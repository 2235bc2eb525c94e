use Rattle.std.proofs.Common.{◌≡◌, ◌+◌, drop, false}
use Rattle.import_formats.specs.dot.Runs.{slash_place}
use Rattle.import_formats.proofs.dot.runs.slash_place.Given as goal

abbrev pub invariant-loop-place : goal.invariant-loop-place
invariant-loop-place l = l.place + slash_place l.starred (drop l.place l.bytes) ≡ slash_place false l.bytes

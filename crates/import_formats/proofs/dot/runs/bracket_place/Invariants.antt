use Rattle.std.proofs.Common.{◌≡◌, ◌+◌, ◌≤◌, drop}
use Rattle.import_formats.specs.dot.Runs.{bracket_place}
use Rattle.import_formats.proofs.dot.runs.bracket_place.Given as goal

abbrev pub invariant-loop-place : goal.invariant-loop-place
invariant-loop-place l = record { exact : l.place + bracket_place l.depth (drop l.place l.bytes) ≡ bracket_place 0 l.bytes; bound : l.depth ≤ l.place }

use Rattle.std.proofs.Common.{◌≡◌, ◌++◌, drop}
use Rattle.std.specs.List.{flat_map}
use Rattle.run_cuts.specs.Counting.{told_by}
use Rattle.run_cuts.proofs.telling.told.Given as goal

abbrev pub invariant-loop-each : goal.invariant-loop-each
invariant-loop-each l = l.cuts.items ++ flat_map told_by (drop l.each-index l.counted) ≡ flat_map told_by l.counted

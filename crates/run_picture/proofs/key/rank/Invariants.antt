use Rattle.std.proofs.Common.{◌≡◌, ◌+◌, drop}
use Rattle.run_picture.specs.Shades.{rank}
use Rattle.run_picture.proofs.key.rank.Given as goal

abbrev pub invariant-loop-place : goal.invariant-loop-place
invariant-loop-place l = l.place + rank (drop l.place l.values) l.value ≡ rank l.values l.value

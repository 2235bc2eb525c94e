use Rattle.std.proofs.Common.{◌≡◌, ◌+◌, drop}
use Rattle.run_picture.specs.Chosen.{own_place}
use Rattle.run_picture.proofs.chosen.own_place.Given as goal

abbrev pub invariant-loop-place : goal.invariant-loop-place
invariant-loop-place l = l.place + own_place (drop l.place l.colours) l.value ≡ own_place l.colours l.value

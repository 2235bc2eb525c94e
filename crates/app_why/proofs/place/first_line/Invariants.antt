use Rattle.std.proofs.Common.{◌≡◌, ◌++◌, take, drop}
use Rattle.app_why.specs.Places.{line_of}
use Rattle.app_why.proofs.place.first_line.Given as goal

abbrev pub invariant-loop-end : goal.invariant-loop-end
invariant-loop-end l = take l.end l.bytes ++ line_of (drop l.end l.bytes) ≡ line_of l.bytes

use Rattle.std.proofs.Common.{◌≡◌, ◌++◌, drop}
use Rattle.net_shapes.specs.Frames.{around}
use Rattle.net_shapes.proofs.large.spot.Spot.put_around.Given as goal

-- the neighbours in the rows that are left complete them
abbrev pub invariant-loop-row : goal.invariant-loop-row
invariant-loop-row l = l.neighbours.items ++ around l.self l.columns (drop l.row-index l.rows) ≡ l.fn.neighbours.items ++ around l.self l.columns l.rows

use Rattle.std.proofs.Common.{◌≡◌, ◌*◌, ◌++◌, drop}
use Rattle.net_shapes.specs.Frames.{in_row}
use Rattle.net_shapes.proofs.large.spot.Spot.put_row.Given as goal

-- the neighbours at the columns that are left complete them
abbrev pub invariant-loop-column : goal.invariant-loop-column
invariant-loop-column l = record {
  start : l.start ≡ l.row * l.self.width;
  left : l.neighbours.items ++ in_row l.self (drop l.column-index l.columns) l.row ≡ l.fn.neighbours.items ++ in_row l.self l.columns l.row;
}

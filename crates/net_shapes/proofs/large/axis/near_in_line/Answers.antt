use Rattle.std.proofs.Common.{arith}
use Rattle.net_shapes.proofs.Lines.{near_in_line}
use Rattle.net_shapes.proofs.large.axis.near_in_line.Goals as goal

pub returns : goal.returns
returns c = rw c.new.ensures (near_in_line c.args.places c.args.place c.saturating_sub-first.result _ c.requires.low (omega arith) (omega arith))

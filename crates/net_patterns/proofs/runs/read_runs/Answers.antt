use Rattle.std.proofs.Common.{None, arith}
use Rattle.net_patterns.specs.RunSteps.{pieces_from}
use Rattle.net_patterns.proofs.RowCells.{begins}
use Rattle.net_patterns.proofs.runs.read_runs.Goals as goal

pub loop-byte-init : goal.loop-byte-init
loop-byte-init c =
    record {
      column = omega (arith, c.new.ensures.column);
      row = omega (arith, c.new.ensures.row);
      line = omega arith;
      number = tt;
      reads = begins c.new.result.cells.items c.new.result.column c.new.result.row (pieces_from c.args.line None 0 c.args.bytes.now) c.new.ensures.cells c.new.ensures.column c.new.ensures.row;
    }

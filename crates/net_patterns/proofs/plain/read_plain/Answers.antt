use Rattle.std.proofs.Common.{◌∙◌, ap, arith}
use Rattle.net_patterns.specs.Cells.{pattern_of}
use Rattle.net_patterns.specs.Texts.{plain_pieces}
use Rattle.net_patterns.proofs.RowCells.{begins}
use Rattle.net_patterns.proofs.plain.read_plain.Goals as goal

pub loop-place-init : goal.loop-place-init
loop-place-init c =
    record {
      column = omega (arith, c.new.ensures.column);
      row = omega (arith, c.new.ensures.row);
      line = omega arith;
      comes = begins c.new.result.cells.items c.new.result.column c.new.result.row (plain_pieces 1 c.is_comment.result c.args.bytes.now) c.new.ensures.cells c.new.ensures.column c.new.ensures.row
          ∙ ap (λ comment. pattern_of (plain_pieces 1 comment c.args.bytes.now)) c.is_comment.ensures;
    }

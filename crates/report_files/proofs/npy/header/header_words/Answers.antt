use Rattle.report_files.proofs.npy.Headers.{header_parts, header_whole, back_of}
use Rattle.report_files.specs.npy.Headers.{header_back}
use Rattle.report_files.proofs.npy.header.header_words.Goals as goal

pub returns-in_err-kind : goal.returns-in_err-kind
returns-in_err-kind c =
    rw c.from_residual.ensures (λ k s whole. c.in_err-kind.ensures k (header_back s whole.blanks) (header_parts c.args.header.now k s whole).0)

pub returns-in_err-shape : goal.returns-in_err-shape
returns-in_err-shape c =
    rw c.from_residual-in_err-shape.ensures (λ k s whole.
    c.in_err-shape.ensures s (back_of c.args.header.now c.in_ok-kind.kind.now c.in_ok-kind.rest.now k s c.in_ok-kind.ensures whole))

pub returns : goal.returns
returns c = header_whole c.args.header.now c.in_ok-kind.kind.now c.in_ok-kind.rest.now c.in_ok-shape.shape.now c.in_ok-kind.ensures c.in_ok-shape.ensures

use Rattle.std.proofs.Common.{sym}
use Rattle.import_formats.specs.matrix_market.Matrices.{lines_left}
use Rattle.import_formats.proofs.matrix_market.EntrySteps.{next_bad, passed_on}
use Rattle.import_formats.proofs.matrix_market.entries.Entries.next_link.Goals as goal

pub returns-in_err-link-clause-link : goal.returns-in_err-link-clause-link
returns-in_err-link-clause-link c =
    let from = c.args.self.now in
    passed_on c.from_residual-in_err-link.result c.in_err-link.field-0.0 _ _ c.from_residual-in_err-link.ensures.1
    (next_bad from.form from.said from.found (lines_left from) c.requires.most (c.in-Some.number, c.in-Some.line.now) _ c.in_err-link.field-0.0 c.in-Some.ensures.told (sym c.in_err-link.ensures.link))

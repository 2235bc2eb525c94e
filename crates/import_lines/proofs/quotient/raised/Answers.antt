use Rattle.import_lines.proofs.Quotients.{raised_large}
use Rattle.import_lines.proofs.quotient.raised.Goals as goal

pub returns-then-power-ge10 : goal.returns-then-power-ge10
returns-then-power-ge10 c = raised_large c.args.number c.args.power c.if-number-eq0.false c.if-power-ge10.true

use Rattle.std.proofs.Common.{length, arith}
use Rattle.report_files.proofs.tables.first_line.first_names.Goals as goal

pub returns-in-Some-clause-only : goal.returns-in-Some-clause-only
returns-in-Some-clause-only c names row more fields fits e =
    c.read_names.ensures.only names row.state.words more fields (omega (arith, fields.few, fits.state.count)) fits.state.small (c.in-Some.ensures (length names) names row more fits e)

pub returns-in-None-clause-only : goal.returns-in-None-clause-only
returns-in-None-clause-only c names row more fields fits e = absurd (c.in-None.ensures (length names) names row more fits e)

use Rattle.report_files.proofs.tables.Reports.{reports_are}
use Rattle.report_files.proofs.tables.laws.reports_are_tables.Goals as goal

pub returns : goal.returns
returns c = record { report = reports_are }

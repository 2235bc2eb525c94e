use Rattle.run_watch.proofs.Whole.{whole_parts_are_reports}
use Rattle.run_watch.proofs.laws.whole_parts_are_reports.Goals as goal

pub returns : goal.returns
returns c = record { report = whole_parts_are_reports }

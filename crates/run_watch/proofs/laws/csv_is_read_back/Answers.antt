use Rattle.run_watch.proofs.Cells.{csv_headings_are_records, csv_rows_are_records, csv_rows_tell}
use Rattle.run_watch.proofs.laws.csv_is_read_back.Goals as goal

pub returns : goal.returns
returns c = record { rows = csv_rows_are_records; headings = csv_headings_are_records; tell = csv_rows_tell }

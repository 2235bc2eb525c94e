use Rattle.run_counts.proofs.Numbers.{headings_are_records, long_lines_are_records, values_are_told, wide_lines_are_records}
use Rattle.run_counts.proofs.laws.csv_is_read_back.Goals as goal

pub returns : goal.returns
returns c = record { rounds = wide_lines_are_records; values = long_lines_are_records; headings = headings_are_records; told = values_are_told }

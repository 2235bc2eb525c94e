use Rattle.run_watch.proofs.StatesLines.{state_headings_are_records, state_lines_are_records, state_lines_tell}
use Rattle.run_watch.proofs.states_csv.states_csv_is_read_back.Goals as goal

pub returns : goal.returns
returns c = record { lines = state_lines_are_records; headings = state_headings_are_records; tell = state_lines_tell }

use Rattle.run_watch.proofs.Labels.{json_labels_are_texts}
use Rattle.run_watch.proofs.Members.{json_nodes_are_numbers, json_rows_are_objects}
use Rattle.run_watch.proofs.laws.json_is_read_back.Goals as goal

pub returns : goal.returns
returns c = record { rows = json_rows_are_objects; nodes = json_nodes_are_numbers; labels = json_labels_are_texts }

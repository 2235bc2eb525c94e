use Rattle.std.proofs.Common.{◌≡◌, ◌++◌, drop}
use Rattle.std.specs.List.{flat_map}
use Rattle.run_counts.specs.Rows.{keys_of}
use Rattle.run_counts.proofs.values.put_all_keys.Given as goal

abbrev pub invariant-loop-row : goal.invariant-loop-row
invariant-loop-row l = l.keys.items ++ flat_map keys_of (drop l.row-index l.rows) ≡ l.initial.keys.items ++ flat_map keys_of l.rows

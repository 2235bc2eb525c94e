use Rattle.std.proofs.Common.{◌≡◌, ◌++◌, drop}
use Rattle.std.specs.List.{flat_map}
use Rattle.run_counts.specs.Ensembles.{RunView}
use Rattle.run_counts.specs.Rows.{keys_of}
use Rattle.run_counts.proofs.values.put_run_keys.Given as goal

abbrev pub invariant-loop-run : goal.invariant-loop-run
invariant-loop-run l =
    l.keys.items ++ flat_map (λ (r : RunView). flat_map keys_of r.rows) (drop l.run-index l.runs) ≡ l.initial.keys.items ++ flat_map (λ (r : RunView). flat_map keys_of r.rows) l.runs

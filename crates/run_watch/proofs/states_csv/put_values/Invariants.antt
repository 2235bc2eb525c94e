use Rattle.std.proofs.Common.{◌≡◌, ◌++◌, drop, string_bytes}
use Rattle.std.specs.List.{flat_map}
use Rattle.run_watch.specs.StatesCsv.{cell, value_texts}
use Rattle.run_watch.proofs.states_csv.put_values.Given as goal

abbrev pub invariant-loop-place : goal.invariant-loop-place
invariant-loop-place l =
    string_bytes l.out ++ flat_map cell (value_texts l.names l.place (drop l.place l.values))
    ≡ string_bytes l.initial.out ++ flat_map cell (value_texts l.names 0 l.values)

use Rattle.std.proofs.Common.{◌≡◌, ◌++◌, drop, map, string_bytes}
use Rattle.std.specs.List.{flat_map}
use Rattle.run_watch.specs.StatesCsv.{cell}
use Rattle.run_watch.proofs.states_csv.put_names.Given as goal

abbrev pub invariant-loop-name : goal.invariant-loop-name
invariant-loop-name l =
    string_bytes l.out ++ flat_map cell (map (λ name. name.now) (drop l.name-index l.names))
    ≡ string_bytes l.initial.out ++ flat_map cell (map (λ name. name.now) l.names)

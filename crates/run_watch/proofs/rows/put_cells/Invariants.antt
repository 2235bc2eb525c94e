use Rattle.std.proofs.Common.{◌≡◌, ◌++◌, drop, string_bytes}
use Rattle.std.specs.List.{flat_map}
use Rattle.rule_check.specs.Value.{names_of}
use Rattle.run_watch.specs.Watching.{place_text}
use Rattle.run_watch.proofs.rows.put_cells.Given as goal

abbrev pub invariant-loop-place : goal.invariant-loop-place
invariant-loop-place l =
    string_bytes l.out ++ flat_map (place_text l.show (names_of l.program) l.state) (drop l.place-index l.show.fields.now)
    ≡ string_bytes l.initial.out ++ flat_map (place_text l.show (names_of l.program) l.state) l.show.fields.now

use Rattle.std.proofs.Common.{◌≡◌, ◌++◌, ◌+◌, ◌-◌, ◌*◌, ℕ, map, slice_index}
use Rattle.std.specs.List.{range_with_len}
use Rattle.run_picture.specs.Moving.{classes_of}
use Rattle.run_picture.specs.Shades.{class_of}
use Rattle.run_picture.proofs.changes.classes_of.Given as goal

abbrev pub invariant-loop-frame : goal.invariant-loop-frame
invariant-loop-frame l =
    let film = l.film in
    l.classes.items ++ map (λ (r : ℕ). class_of film.key.now (slice_index film.values.now (r * film.nodes + l.node))) (range_with_len l.frame (film.pace.frames - l.frame))
    ≡ classes_of film.key.now film.values.now film.nodes film.pace.frames l.node

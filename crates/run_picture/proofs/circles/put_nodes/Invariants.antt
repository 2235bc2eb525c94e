use Rattle.std.proofs.Common.{◌≡◌, ◌++◌, ◌-◌, string_bytes}
use Rattle.std.specs.List.{flat_map, range_with_len}
use Rattle.run_picture.specs.Nets.{circle_of, circles_text}
use Rattle.run_picture.proofs.circles.put_nodes.Given as goal

abbrev pub invariant-loop-node : goal.invariant-loop-node
invariant-loop-node l =
    let film = l.film in
    string_bytes l.out ++ flat_map (circle_of film.key.now film.pace.frames film.pace.time film.nodes film.values.now) (range_with_len l.node (film.nodes - l.node))
    ≡ string_bytes l.initial.out ++ circles_text film.key.now film.pace.frames film.pace.time film.nodes film.values.now

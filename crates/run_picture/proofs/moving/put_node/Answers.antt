use Rattle.std.proofs.Common.{◌+◌, ◌*◌, ℕ, ap, arith, length, slice_index}
use Rattle.std.proofs.lemmas.List.FromFn.{length-map-range_with_len}
use Rattle.run_picture.specs.Shades.{class_of}
use Rattle.run_picture.proofs.moving.put_node.Goals as goal

pub put_colours-requires-clause-few : goal.put_colours-requires-clause-few
put_colours-requires-clause-few c =
    let film = c.args.film.now in
    let count = length-map-range_with_len (λ (r : ℕ). class_of film.key.now (slice_index film.values.now (r * film.nodes + c.args.node))) 0 film.pace.frames in
    omega (arith, ap length c.deref.ensures.value, ap length c.in_ok-classes.ensures.classes, count, c.requires.few)

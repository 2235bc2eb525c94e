use Rattle.std.proofs.Common.{◌<◌, ◌+◌, ◌*◌, ℕ, arith, append_assoc, slice_index}
use Rattle.std.proofs.lemmas.Grind.{common_steps}
use Rattle.run_watch.proofs.Ranges.{map_left}
use Rattle.run_picture.specs.Shades.{class_of}
use Rattle.run_picture.proofs.changes.classes_of.Goals as goal

pub loop-frame-preserved : goal.loop-frame-preserved
loop-frame-preserved c =
    let film = c.args.film.now in
    let r = c.loop-frame.frame in
    let inside : r < film.pace.frames = omega (arith, c.loop-frame-test.true) in
    let more = map_left (λ (s : ℕ). class_of film.key.now (slice_index film.values.now (s * film.nodes + c.args.node))) r film.pace.frames inside in
    grind (arith, common_steps, more, append_assoc)

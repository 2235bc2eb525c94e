use Rattle.std.proofs.Common.{◌<◌, arith, append_assoc}
use Rattle.std.proofs.lemmas.Grind.{common_steps}
use Rattle.run_picture.specs.Nets.{circle_of}
use Rattle.run_watch.proofs.Ranges.{flat_left}
use Rattle.run_picture.proofs.circles.put_nodes.Goals as goal

pub loop-node-preserved : goal.loop-node-preserved
loop-node-preserved c =
    let film = c.args.film.now in
    let u = c.loop-node.node in
    let inside : u < film.nodes = omega (arith, c.loop-node-test.true) in
    let more = flat_left (circle_of film.key.now film.pace.frames film.pace.time film.nodes film.values.now) u film.nodes inside in
    grind (arith, common_steps, more, append_assoc)

use Rattle.std.proofs.Common.{◌<◌, arith, append_assoc, length}
use Rattle.std.proofs.lemmas.Grind.{common_steps}
use Rattle.run_picture.specs.Nets.{strokes_at}
use Rattle.run_watch.proofs.Ranges.{flat_left}
use Rattle.run_picture.proofs.strokes.put_links.Goals as goal

pub loop-node-preserved : goal.loop-node-preserved
loop-node-preserved c =
    let network = c.args.network.now in
    let u = c.loop-node.node in
    let inside : u < length network = omega (arith, c.loop-node-test.true, c.loop-node.auto.node-end, c.nodes-node-end.ensures.count) in
    let more = flat_left (strokes_at network) u (length network) inside in
    grind (arith, common_steps, more, append_assoc)

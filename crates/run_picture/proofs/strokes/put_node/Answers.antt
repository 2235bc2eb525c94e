use Rattle.std.proofs.Common.{◌<◌, arith, append_assoc}
use Rattle.std.proofs.lemmas.Grind.{common_steps}
use Rattle.link_net.specs.Neighbours.{degree}
use Rattle.run_picture.specs.Nets.{slot_stroke}
use Rattle.run_watch.proofs.Ranges.{flat_left}
use Rattle.run_picture.proofs.strokes.put_node.Goals as goal

pub loop-slot-preserved : goal.loop-slot-preserved
loop-slot-preserved c =
    let network = c.args.network.now in
    let u = c.args.node in
    let j = c.loop-slot.slot in
    let inside : j < degree network u = omega (arith, c.loop-slot-test.true, c.loop-slot.auto.slot-end, c.degree_of-slot-end.ensures) in
    let more = flat_left (slot_stroke network u) j (degree network u) inside in
    grind (arith, common_steps, more, append_assoc)

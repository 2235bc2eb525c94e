use Rattle.net_initial.proofs.Rows.{slot_above, slot_below, slots_end}
use Rattle.net_initial.proofs.network_links.put_above.Goals as goal
use Rattle.net_initial.proofs.network_links.put_above.Goals.{then-node-neighbours+in_ok-push, else-node-neighbours}

pub loop-slot-preserved : goal.loop-slot-preserved
loop-slot-preserved c =
    let ns = c.args.neighbours.now in
    let ws = c.args.weights.now in
    let i = c.loop-slot.slot in
    let u = c.args.node in
    elim c.if-node-neighbours.branch [
      | then-node-neighbours+in_ok-push w ↦ rw (w.links-is, w.in_ok-push.ensures.items) (slot_above u ns ws i _ _ c.requires c.loop-slot.invariant c.loop-slot-test.true w.if-node-neighbours.true)
      | else-node-neighbours w ↦ rw w.links-is (slot_below u ns ws i _ _ c.requires c.loop-slot.invariant c.loop-slot-test.true w.if-node-neighbours.false)
    ]

pub returns : goal.returns
returns c = slots_end c.args.node c.args.neighbours.now c.args.weights.now c.loop-slot.slot _ _ c.requires c.loop-slot.invariant c.loop-slot-test.false

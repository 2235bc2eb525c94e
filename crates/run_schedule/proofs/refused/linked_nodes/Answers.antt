use Rattle.std.proofs.Common.{◌<◌, length, arith}
use Rattle.run_schedule.proofs.Mixing.{linked-more}
use Rattle.run_schedule.proofs.refused.linked_nodes.Goals as goal

pub loop-node-preserved : goal.loop-node-preserved
loop-node-preserved c =
    let i = c.loop-node.invariant in
    let many = c.nodes-node-end.ensures.count in
    let here : c.loop-node.node < length c.args.network.now = omega (arith, many, c.loop-node-test.true) in
    let more = linked-more c.args.network.now c.loop-node.node c.loop-node.linked.items c.put_linked.new.linked.items here c.in_ok-put_linked.ensures.put i.linked i.some in
    record { linked = more.0; some = more.1 }

pub returns-clause-linked : goal.returns-clause-linked
returns-clause-linked c = c.loop-node.invariant.linked

pub returns-clause-some : goal.returns-clause-some
returns-clause-some c = λ link.
    let some : 0 < length c.loop-node.linked.items = c.loop-node.invariant.some link.0 (omega (arith, c.nodes-node-end.ensures.count, c.loop-node-test.false, link.1.0)) link.1.1 in
    omega arith

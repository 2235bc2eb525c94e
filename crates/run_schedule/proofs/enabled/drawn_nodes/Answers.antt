use Rattle.std.proofs.Common.{◌≡◌, length, sym, subst, arith}
use Rattle.run_schedule.proofs.Drawn.{DrawnSoFar, drawn-all, drawn-more, drawn-none}
use Rattle.run_schedule.proofs.enabled.drawn_nodes.Goals as goal

pub loop-node-init : goal.loop-node-init
loop-node-init c = subst (DrawnSoFar c.args.walk.now.world c.args.share 0) (sym c.new-drawn.ensures.items) (drawn-none c.args.walk.now.world c.args.share)

pub loop-node-preserved : goal.loop-node-preserved
loop-node-preserved c = drawn-more c.args.walk.now.world c.args.share c.loop-node.node c.loop-node.drawn.items c.put_drawn.new.drawn.items c.loop-node.invariant c.in_ok-put_drawn.ensures.put

pub returns : goal.returns
returns c =
    let many = rw c.network.ensures.network at c.nodes-node-end.ensures.count in
    let end : c.loop-node.node ≡ length c.args.walk.now.world.plan.network = omega (arith, many, c.loop-node-test.false) in
    record { drawn = drawn-all c.args.walk.now.world c.args.share c.loop-node.node c.loop-node.drawn.items c.loop-node.invariant end }

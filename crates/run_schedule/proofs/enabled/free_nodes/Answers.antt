use Rattle.std.proofs.Common.{◌≡◌, ap, ◌∙◌, length, arith}
use Rattle.std.specs.List.{filter, range_with_len}
use Rattle.run_schedule.specs.Daemons.{is_free}
use Rattle.run_schedule.proofs.Drawn.{free-more}
use Rattle.run_schedule.proofs.enabled.free_nodes.Goals as goal

pub loop-node-preserved : goal.loop-node-preserved
loop-node-preserved c = free-more (is_free c.args.walk.now.world c.args.but) c.loop-node.node c.loop-node.free.items c.put_free.new.free.items c.loop-node.invariant c.in_ok-put_free.ensures.put

pub returns : goal.returns
returns c =
    let many = rw c.network.ensures.network at c.nodes-node-end.ensures.count in
    let end : c.loop-node.node ≡ length c.args.walk.now.world.plan.network = omega (arith, many, c.loop-node-test.false) in
    record { free = c.loop-node.invariant ∙ ap (λ n. filter (is_free c.args.walk.now.world c.args.but) (range_with_len 0 n)) end }

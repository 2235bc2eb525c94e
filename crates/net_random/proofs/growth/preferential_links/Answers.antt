use Rattle.net_random.proofs.Growing.{grow}
use Rattle.net_random.proofs.growth.preferential_links.Goals as goal

pub loop-node-preserved : goal.loop-node-preserved
loop-node-preserved c =
    let grown = grow c.loop-node.node c.args.each c.loop-node.links.items c.in_ok-others.others.keys c.loop-node.invariant c.in_ok-others.ensures.different c.in_ok-others.ensures.count in
    rw (c.in_ok-put_links.ensures, c.as_slice-in-loop-node.ensures.keys) grown

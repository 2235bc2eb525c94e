use Rattle.std.proofs.Common.{sym, ap, ◌∙◌, ◌++◌}
use Rattle.net_random.specs.RandomNetworks.{following}
use Rattle.net_random.proofs.Ring.{ring_more}
use Rattle.net_random.proofs.lattice.ring_links.Goals as goal

pub loop-node-preserved : goal.loop-node-preserved
loop-node-preserved c = c.in_ok-put_following.ensures ∙ ap (λ ls. ls ++ following c.args.nodes c.args.near c.loop-node.node) c.loop-node.invariant ∙ sym (ring_more c.args.nodes c.args.near c.loop-node.node)

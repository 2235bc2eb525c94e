use Rattle.std.proofs.Common.{◌<◌, [], ◌∷◌, refl, arith, rules}
use Rattle.net_random.proofs.Growing.{first_grown, grow}
use Rattle.net_random.proofs.growth.tree_links.Goals as goal

pub loop-node-init : goal.loop-node-init
loop-node-init c = rw c.in_ok-links.ensures.items (first_grown 1)

pub loop-node-preserved : goal.loop-node-preserved
loop-node-preserved c =
    let parent = c.random_range-parent.result in
    let low : parent < c.loop-node.node = search rules in
    rw c.in_ok-push.ensures.items
    (grow c.loop-node.node 1 c.loop-node.links.items (parent ∷ []) c.loop-node.invariant (record { below = (low, tt); once = refl }) (omega arith))

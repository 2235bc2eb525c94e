use Rattle.net_random.specs.Growth.{IsGrown}
use Rattle.net_random.proofs.growth.tree_links.Given as goal

abbrev pub invariant-loop-node : goal.invariant-loop-node
invariant-loop-node l = IsGrown 1 l.node l.links.items

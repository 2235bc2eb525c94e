use Rattle.net_random.specs.Growth.{IsGrown}
use Rattle.net_random.proofs.growth.preferential_links.Given as goal

abbrev pub invariant-loop-node : goal.invariant-loop-node
invariant-loop-node l = IsGrown l.each l.node l.links.items

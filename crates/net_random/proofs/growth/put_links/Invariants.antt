use Rattle.std.proofs.Common.{◌≡◌, ◌++◌, map, take}
use Rattle.net_random.specs.Growth.{link_to}
use Rattle.net_random.proofs.growth.put_links.Given as goal

abbrev pub invariant-loop-other : goal.invariant-loop-other
invariant-loop-other l = l.links.items ≡ l.fn.links.items ++ map (link_to l.node) (take l.other-index l.others)

use Rattle.std.proofs.Common.{◌≡◌, map, take}
use Rattle.net_random.specs.Pairs.{link_at}
use Rattle.net_random.proofs.pairs.links_at.Given as goal

abbrev pub invariant-loop-place : goal.invariant-loop-place
invariant-loop-place l = l.links.items ≡ map (link_at l.nodes) (take l.place-index l.places)

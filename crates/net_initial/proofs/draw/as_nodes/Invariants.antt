use Rattle.std.proofs.Common.{◌≡◌, take}
use Rattle.net_initial.proofs.draw.as_nodes.Given as goal

abbrev pub invariant-loop-place : goal.invariant-loop-place
invariant-loop-place l = l.nodes.items ≡ take l.place-index l.places

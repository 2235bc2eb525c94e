use Rattle.std.proofs.Common.{◌≡◌, ◌++◌, drop}
use Rattle.std.specs.List.{zip}
use Rattle.net_initial.specs.Ahead.{links_up}
use Rattle.net_initial.proofs.network_links.put_above.Given as goal

abbrev pub invariant-loop-slot : goal.invariant-loop-slot
invariant-loop-slot l = l.links.items ++ links_up l.node (drop l.slot (zip l.neighbours l.weights)) ≡ l.fn.links.items ++ links_up l.node (zip l.neighbours l.weights)

use Rattle.std.proofs.Common.{◌≡◌, ◌++◌, zip, drop}
use Rattle.net_text.specs.RowLinks.{links_up}
use Rattle.net_text.proofs.row_file.push_links.Given as goal

-- the links of the slots that are left complete those that stand there
abbrev pub invariant-loop-slot : goal.invariant-loop-slot
invariant-loop-slot l = l.links.items ++ links_up l.node (drop l.slot (zip l.neighbours l.weights)) ≡ l.initial.links.items ++ links_up l.node (zip l.neighbours l.weights)

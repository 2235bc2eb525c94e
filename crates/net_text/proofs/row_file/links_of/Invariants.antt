use Rattle.std.proofs.Common.{◌≡◌, ◌++◌, drop}
use Rattle.net_text.specs.RowLinks.{links_from, row_links}
use Rattle.net_text.proofs.row_file.links_of.Given as goal

-- the links of the nodes that are left complete those that stand there
abbrev pub invariant-loop-node : goal.invariant-loop-node
invariant-loop-node l = l.links.items ++ links_from l.node (drop l.node l.rows) ≡ row_links l.rows

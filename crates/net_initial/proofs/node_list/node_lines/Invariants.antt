use Rattle.std.proofs.Common.{◌≡◌, ◌+◌, ◌≤◌, ◌++◌, map, length}
use Rattle.net_initial.specs.NodeLists.{listed_in}
use Rattle.net_initial.proofs.node_list.node_lines.Given as goal

abbrev pub invariant-loop-rest : goal.invariant-loop-rest
invariant-loop-rest l = record {
  room : l.number + length l.rest ≤ length l.list;
  lines : map (λ l. (l.line, l.text.now)) l.lines.items ++ listed_in (l.number + 1) l.rest ≡ listed_in 1 l.list;
}

abbrev pub decreases-loop-rest : goal.decreases-loop-rest
decreases-loop-rest l = length l.rest

use Rattle.std.proofs.Common.{◌≡◌, map, take, drop, not, None}
use Rattle.std.specs.List.{find}
use Rattle.net_patterns.specs.Placing.{node_at, is_inside}
use Rattle.net_patterns.proofs.placing.nodes_of.Given as goal

abbrev pub invariant-loop-cell : goal.invariant-loop-cell
invariant-loop-cell l =
    (l.nodes.items ≡ map (node_at l.grid l.corner) (take l.cell-index l.cells))
    × (find (λ c. not (is_inside l.grid l.corner c)) (drop l.cell-index l.cells) ≡ None)

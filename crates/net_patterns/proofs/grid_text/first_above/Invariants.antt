use Rattle.std.proofs.Common.{◌≡◌, drop}
use Rattle.net_patterns.specs.OnGrids.{first_above}
use Rattle.net_patterns.proofs.grid_text.first_above.Given as goal

abbrev pub invariant-loop-node : goal.invariant-loop-node
invariant-loop-node l = first_above l.most l.node (drop l.node l.values) ≡ first_above l.most 0 l.values

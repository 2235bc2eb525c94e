use Rattle.std.proofs.Common.{◌≡◌, ◌==◌, ◌++◌, drop, filter}
use Rattle.net_patterns.proofs.states.cells_of_state.Given as goal

abbrev pub invariant-loop-cell : goal.invariant-loop-cell
invariant-loop-cell l = l.alike.items ++ filter (λ c. c.state == l.state) (drop l.cell-index l.cells) ≡ filter (λ c. c.state == l.state) l.cells

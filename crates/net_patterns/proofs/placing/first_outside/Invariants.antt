use Rattle.std.proofs.Common.{◌≡◌, drop, not}
use Rattle.std.specs.List.{find}
use Rattle.net_patterns.specs.Placing.{is_inside}
use Rattle.net_patterns.proofs.placing.first_outside.Given as goal

abbrev pub invariant-loop-cell : goal.invariant-loop-cell
invariant-loop-cell l = find (λ c. not (is_inside l.grid l.corner c)) l.cells ≡ find (λ c. not (is_inside l.grid l.corner c)) (drop l.cell-index l.cells)

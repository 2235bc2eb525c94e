use Rattle.std.specs.Prelude.{All}
use Rattle.std.proofs.Common.{ℕ, ◌<◌, ◌≤◌}
use Rattle.link_net.specs.Neighbours.{row}
use Rattle.app_why.proofs.bounds.greatest_weight.Given as goal

abbrev pub invariant-loop-node : goal.invariant-loop-node
invariant-loop-node l = (u : ℕ) → u < l.node → All (λ arc. arc.1 ≤ l.found) (row l.rows u)

use Rattle.std.proofs.Common.{ℕ, ◌<◌, ◌≤◌}
use Rattle.link_net.specs.Neighbours.{degree}
use Rattle.app_why.proofs.bounds.greatest_degree.Given as goal

abbrev pub invariant-loop-node : goal.invariant-loop-node
invariant-loop-node l = (u : ℕ) → u < l.node → degree l.rows u ≤ l.greatest

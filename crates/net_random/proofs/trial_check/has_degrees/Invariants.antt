use Rattle.std.proofs.Common.{ℕ, ◌<◌}
use Rattle.link_net.specs.Neighbours.{degree}
use Rattle.net_random.specs.RandomNetworks.{IsDegree}
use Rattle.net_random.proofs.trial_check.has_degrees.Given as goal

abbrev pub invariant-loop-node : goal.invariant-loop-node
invariant-loop-node l = (u : ℕ) → u < l.node → IsDegree l.wanted (degree l.rows u)

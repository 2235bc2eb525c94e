use Rattle.std.proofs.Common.{◌≡◌, ℕ, [], map}
use Rattle.link_net.specs.Neighbours.{numbers_below}
use Rattle.run_naive.specs.Naive.{opening_node}
use Rattle.run_naive.specs.Keeping.{past_in, past_of, shown}
use Rattle.run_naive.proofs.opening.opening_nodes.Given as goal

abbrev pub invariant-loop-node : goal.invariant-loop-node
invariant-loop-node l = record {
  shown : map shown l.nodes.items ≡ map (opening_node l.plan) (numbers_below l.node);
  past : (u : ℕ) → past_in (map past_of l.nodes.items) u ≡ [];
}

use Rattle.std.proofs.Common.{◌≡◌, ◌<◌, ◌≤◌, ℕ, drop, length, map, max}
use Rattle.std.specs.List.{fold}
use Rattle.run_naive.specs.Naive.{NaiveNode, node_in}
use Rattle.run_naive.specs.Keeping.{shown}
use Rattle.run_naive.specs.Writing.{greatest_count}
use Rattle.run_naive.proofs.rounds.most_moves.Given as goal

abbrev pub invariant-loop-this : goal.invariant-loop-this
invariant-loop-this l = record {
  exact : fold max l.most (map (λ (n : NaiveNode). n.moves) (drop l.this-index (map shown l.nodes))) ≡ greatest_count l.plan (map shown l.nodes);
  late : l.plan.start ≤ l.most;
  most : (u : ℕ) → u < l.this-index → (node_in (map shown l.nodes) u).moves ≤ l.most;
  few : (m : ℕ) → l.plan.start ≤ m → ((u : ℕ) → u < length l.nodes → (node_in (map shown l.nodes) u).moves ≤ m) → l.most ≤ m;
}

use Rattle.std.proofs.Common.{◌≡◌, ◌<◌, ◌≤◌, ℕ, length, map, get_or}
use Rattle.rounds_plan.specs.Lockstep.{lockstep, state_in}
use Rattle.run_naive.specs.Naive.{node_in}
use Rattle.run_naive.specs.Keeping.{shown}
use Rattle.run_naive.proofs.comparing.note_lockstep.Given as goal

abbrev pub invariant-loop-node : goal.invariant-loop-node
invariant-loop-node l = record {
  room : length l.known ≡ length l.plan.network;
  done : (u : ℕ) → u < l.node → (node_in (map shown l.nodes) u).moves ≤ l.moves → state_in l.known u ≡ lockstep l.plan (node_in (map shown l.nodes) u).moves u;
  left : (u : ℕ) → l.node ≤ u → state_in l.known u ≡ state_in l.initial.known u;
}

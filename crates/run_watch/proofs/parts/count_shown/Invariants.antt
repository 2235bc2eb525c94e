use Rattle.std.proofs.Common.{◌≡◌, ◌≤◌, ◌+◌, ◌-◌, ℕ, length}
use Rattle.std.specs.List.{filter, range_with_len}
use Rattle.rounds_plan.specs.Lockstep.{state_in}
use Rattle.run_watch.specs.Watching.{is_shown, shown_nodes}
use Rattle.run_watch.proofs.parts.count_shown.Given as goal

abbrev pub invariant-loop-node : goal.invariant-loop-node
invariant-loop-node l = record {
  few : l.count ≤ l.node;
  count : l.count + length (filter (λ (u : ℕ). is_shown l.show l.before u (state_in l.config.states u)) (range_with_len l.node (length l.config.states - l.node)))
      ≡ length (shown_nodes l.show l.before l.config.states);
}

use Rattle.std.proofs.Common.{◌≡◌, ◌++◌, ◌-◌}
use Rattle.std.specs.List.{range_with_len}
use Rattle.run_counts.proofs.values.states_of.Given as goal

abbrev pub invariant-loop-state : goal.invariant-loop-state
invariant-loop-state l = l.keys.items ++ range_with_len l.state (l.states - l.state) ≡ range_with_len 0 l.states

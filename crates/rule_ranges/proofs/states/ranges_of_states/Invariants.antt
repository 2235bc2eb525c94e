use Rattle.std.proofs.Common.{ℕ, ◌≡◌, ◌<◌, length, slice_index, slice_index_or}
use Rattle.rule_check.specs.declared.state.State.{State}
use Rattle.rule_ranges.specs.declared.range.Range.{Range}
use Rattle.rule_ranges.specs.Ranges.{IsWithin}
use Rattle.rule_ranges.proofs.states.ranges_of_states.Given as goal

-- the words of the states so far lie there
abbrev pub invariant-loop-state : goal.invariant-loop-state
invariant-loop-state l = record {
  within : (i k : ℕ) (d : State) (e : Range) → i < l.state-index → k < 8 → IsWithin (slice_index_or l.ranges k e) (slice_index (slice_index_or l.states i d).words k);
  long : (i : ℕ) (d : State) → i < l.state-index → length (slice_index_or l.states i d).words ≡ 8;
}

use Rattle.std.proofs.Common.{ℕ, ◌≡◌, ◌<◌, length, slice_index, slice_index_or}
use Rattle.rule_ranges.specs.declared.range.Range.{Range}
use Rattle.rule_ranges.specs.Ranges.{IsWithin}
use Rattle.rule_ranges.specs.States.{AreWider}
use Rattle.rule_ranges.proofs.states.take_state.Given as goal

-- they have become wider, and the words up to k lie there
abbrev pub invariant-loop-k : goal.invariant-loop-k
invariant-loop-k l = record {
  long : length l.ranges ≡ 8;
  wider : AreWider l.fn.ranges l.ranges;
  within : (j : ℕ) (d : Range) → j < l.k → IsWithin (slice_index_or l.ranges j d) (slice_index l.state.words j);
}

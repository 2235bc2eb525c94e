use Rattle.std.proofs.Common.{ℕ, ◌≡◌, ◌<◌, ◌≤◌, ◌+◌, ◌⊎◌, inl, inr, arith, length, slice_index, slice_index_or, subst}
use Rattle.std.proofs.lemmas.Bool.{cases_lt}
use Rattle.std.proofs.lemmas.List.{get_or_default}
use Rattle.rule_check.specs.declared.state.State.{State}
use Rattle.rule_ranges.specs.declared.range.Range.{Range}
use Rattle.rule_ranges.specs.Ranges.{IsWithin}
use Rattle.rule_ranges.proofs.states.ranges_of_states.Goals as goal

pub loop-state-preserved : goal.loop-state-preserved
loop-state-preserved c = record {
  within = λ i k d e low inside. within i k d e low inside (cases_lt i c.loop-state.state-index);
  long = λ i d low. long i d low (cases_lt i c.loop-state.state-index);
} where
  within : (i k : ℕ) (d : State) (e : Range) → i < c.loop-state.state-index + 1 → k < 8 → ((i < c.loop-state.state-index) ⊎ (c.loop-state.state-index ≤ i))
      → IsWithin (slice_index_or c.take_state.new.ranges k e) (slice_index (slice_index_or c.args.states.now i d).words k)
  within i k d e low inside (inl h) = c.take_state.ensures.wider k (slice_index (slice_index_or c.args.states.now i d).words k) e e inside (c.loop-state.invariant.within i k d e h inside)
  within i k d e low inside (inr h) =
      let same : c.loop-state.state-index ≡ i = omega (arith, low, h) in
      subst (λ (j : ℕ). IsWithin (slice_index_or c.take_state.new.ranges k e) (slice_index (slice_index_or c.args.states.now j d).words k)) same
      (subst (λ (s : State). IsWithin (slice_index_or c.take_state.new.ranges k e) (slice_index s.words k)) (get_or_default c.args.states.now c.loop-state.state-index _ d c.loop-state-test.true) (c.take_state.ensures.within k e inside))

  long : (i : ℕ) (d : State) → i < c.loop-state.state-index + 1 → ((i < c.loop-state.state-index) ⊎ (c.loop-state.state-index ≤ i)) → length (slice_index_or c.args.states.now i d).words ≡ 8
  long i d low (inl h) = c.loop-state.invariant.long i d h
  long i d low (inr h) =
      let same : c.loop-state.state-index ≡ i = omega (arith, low, h) in
      subst (λ (j : ℕ). length (slice_index_or c.args.states.now j d).words ≡ 8) same
      (subst (λ (s : State). length s.words ≡ 8) (get_or_default c.args.states.now c.loop-state.state-index _ d c.loop-state-test.true) c.take_state.ensures.long)

pub returns-clause-long : goal.returns-clause-long
returns-clause-long c = λ i d low. c.loop-state.invariant.long i d (omega (arith, low, c.loop-state-test.false))

use Rattle.std.proofs.Common.{ℕ, ◌≡◌, ◌<◌, ◌≤◌, ◌+◌, ◌⊎◌, inl, inr, ◌∙◌, arith, length-set, set, slice_index, slice_index_or, subst, sym}
use Rattle.std.proofs.lemmas.Bool.{cases_lt}
use Rattle.std.proofs.lemmas.List.{get_or-set_same, get_or-set_other}
use Rattle.rule_ranges.specs.declared.range.Range.{Range}
use Rattle.rule_ranges.specs.Ranges.{IsWithin}
use Rattle.rule_ranges.proofs.Wider.{wider_set}
use Rattle.rule_ranges.proofs.states.take_state.Goals as goal

abbrev blank : Range
blank = record { least = 0; most = 0 }

pub loop-k-preserved : goal.loop-k-preserved
loop-k-preserved c = record {
  long = length-set c.loop-k.ranges c.loop-k.k c.joined.result ∙ c.loop-k.invariant.long;
  wider = wider_set c.args.ranges.now c.loop-k.ranges c.loop-k.k blank c.joined.result c.loop-k.invariant.long c.loop-k-test.true c.loop-k.invariant.wider c.joined.ensures.first;
  within = λ j d low. at j d low (cases_lt j c.loop-k.k);
} where
  at : (j : ℕ) (d : Range) → j < c.loop-k.k + 1 → ((j < c.loop-k.k) ⊎ (c.loop-k.k ≤ j)) → IsWithin (slice_index_or (set c.loop-k.ranges c.loop-k.k c.joined.result) j d) (slice_index c.args.state.now.words j)
  at j d low (inl h) =
      subst (λ (r : Range). IsWithin r (slice_index c.args.state.now.words j)) (sym (get_or-set_other c.loop-k.ranges c.loop-k.k j c.joined.result d (λ same. omega (arith, h, same)))) (c.loop-k.invariant.within j d h)
  at j d low (inr h) =
      let same : c.loop-k.k ≡ j = omega (arith, low, h) in
      subst (λ (i : ℕ). IsWithin (slice_index_or (set c.loop-k.ranges c.loop-k.k c.joined.result) i d) (slice_index c.args.state.now.words i)) same
      (subst (λ (r : Range). IsWithin r (slice_index c.args.state.now.words c.loop-k.k)) (sym (get_or-set_same c.loop-k.ranges c.loop-k.k c.joined.result d (omega (arith, c.loop-k-test.true, c.loop-k.invariant.long))))
      (c.joined.ensures.second (slice_index c.args.state.now.words c.loop-k.k) (c.exactly.ensures.within)))

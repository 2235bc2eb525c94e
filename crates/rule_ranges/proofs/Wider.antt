-- Ranges that become wider.
use Rattle.std.proofs.Common.{ℕ, ◌≡◌, ◌≢◌, ◌<◌, ◌⊎◌, inl, inr, List, length, set, slice_index, slice_index_or, sym, subst, arith}
use Rattle.std.proofs.lemmas.Bool.{cases_eq}
use Rattle.std.proofs.lemmas.List.{get_or-set_same, get_or-set_other}
use Rattle.rule_check.specs.declared.state.State.{State}
use Rattle.rule_ranges.specs.declared.range.Range.{Range}
use Rattle.rule_ranges.specs.Ranges.{IsWithin}
use Rattle.rule_ranges.specs.States.{AreWider, IsStateWithin}

-- ranges of which one becomes wider
pub wider_set : (narrow old : List Range) (n : ℕ) (blank range : Range) → length old ≡ 8 → n < 8 → AreWider narrow old → ((v : ℕ) → IsWithin (slice_index_or old n blank) v → IsWithin range v) → AreWider narrow (set old n range)
wider_set narrow old n blank range long low before here k v d e inside is = at (cases_eq n k) where
  at : ((n ≡ k) ⊎ (n ≢ k)) → IsWithin (slice_index_or (set old n range) k e) v
  at (inl same) =
      let there : IsWithin (slice_index_or old k blank) v = before k v d blank inside is in
      subst (λ (j : ℕ). IsWithin (slice_index_or (set old n range) j e) v) same
      (subst (λ (r : Range). IsWithin r v) (sym (get_or-set_same old n range e (omega (arith, low, long)))) (here v (subst (λ (j : ℕ). IsWithin (slice_index_or old j blank) v) (sym same) there)))
  at (inr apart) = subst (λ (r : Range). IsWithin r v) (sym (get_or-set_other old n k range e (λ same. apart (sym same)))) (before k v d e inside is)

-- a state that lies in ranges lies in wider ones
pub state_wider : (fields : ℕ) (narrow wide : List Range) (state : State) → AreWider narrow wide → IsStateWithin fields narrow state → IsStateWithin fields wide state
state_wider fields narrow wide state wider is = record {
  long = is.long;
  plain = is.plain;
  within = λ k d low. wider k (slice_index state.words k) d d low (is.within k d low);
}

-- Shares in which batches are.
use Rattle.std.proofs.Common.{◌≡◌, ◌<◌, ◌≤◌, ◌+◌, ◌-◌, ◌⊎◌, ◌∙◌, refl, inl, inr, ℕ, List, [], ◌∷◌, ◌++◌, length, sym, ap, subst, arith, slice_index_or, length-append}
use Rattle.std.proofs.lemmas.Bool.{cases_lt}
use Rattle.std.proofs.lemmas.List.{get_or-append_right}
use Rattle.std.proofs.Math.ListN.{get_or-append}
use Rattle.rounds_blocks.specs.declared.share.Share.{Share}
use Rattle.rounds_blocks.specs.Walks.{IsShared}

module _ (old new : List Share) (share : Share) (first behind : ℕ) (are : new ≡ old ++ share ∷ []) (begins : share.first ≡ first) (ends : share.behind ≡ behind)
    (before : (i : ℕ) → i < first → (s : ℕ) × IsShared old i s) where
  kept_share : (s : ℕ) (d : Share) → s < length old → slice_index_or new s d ≡ slice_index_or old s d
  kept_share s d inside = ap (λ (xs : List Share). slice_index_or xs s d) are ∙ get_or-append old (share ∷ []) d s inside

  none_left : length old - length old ≡ 0
  none_left = omega arith

  last_share : (d : Share) → slice_index_or new (length old) d ≡ share
  last_share d = ap (λ (xs : List Share). slice_index_or xs (length old) d) are ∙ get_or-append_right old (share ∷ []) (length old) (length old) d refl (omega arith) ∙ ap (λ (i : ℕ). slice_index_or (share ∷ []) i d) none_left

  count_new : length new ≡ length old + 1
  count_new = ap length are ∙ length-append old (share ∷ [])

  covered_by : (i : ℕ) → i < behind → ((i < first) ⊎ (first ≤ i)) → (s : ℕ) × IsShared new i s
  covered_by i inside (inl h) =
      let found = before i h in
      let there : found.0 < length new = omega (arith, found.1.there, count_new) in (
        found.0,
        record {
          there = there;
          from_first = λ d. subst (λ (x : Share). x.first ≤ i) (sym (kept_share found.0 d found.1.there)) (found.1.from_first d);
          before_end = λ d. subst (λ (x : Share). i < x.behind) (sym (kept_share found.0 d found.1.there)) (found.1.before_end d);
        },
      )
  covered_by i inside (inr h) = (
    length old,
    record {
      there = omega (arith, count_new);
      from_first = λ d. subst (λ (x : Share). x.first ≤ i) (sym (last_share d)) (omega (arith, h, begins));
      before_end = λ d. subst (λ (x : Share). i < x.behind) (sym (last_share d)) (omega (arith, inside, ends));
    },
  )

  -- one share more
  pub covered_more : (i : ℕ) → i < behind → (s : ℕ) × IsShared new i s
  covered_more i inside = covered_by i inside (cases_lt i first)

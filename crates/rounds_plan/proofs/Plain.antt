-- States with no value after their fields.
use Rattle.std.proofs.Common.{◌≡◌, ◌==◌, ◌<◌, ◌-◌, ◌+◌, ℕ, Bool, false, not, List, length, drop, get_or, All, sym, ap, ◌∙◌, arith, inl, inr}
use Rattle.std.specs.List.{list_any}
use Rattle.std.proofs.lemmas.Bool.{cases_lt, false_from_ne_true, not-false, false≢true}
use Rattle.std.proofs.lemmas.List.{get_or-drop, get_or_past}
use Rattle.std.proofs.lemmas.List.Folds.{list_any_at}
use Rattle.std.proofs.lemmas.Map.Views.{exact_unsigned_eq}
use Rattle.rule_check.specs.declared.state.State.{State}
use Rattle.rounds_plan.specs.Configs.{IsPlain}
use Rattle.rounds_plan.specs.Starts.{is_stray}

-- where no element passes, none does
none_at : {X : Type 0} (p : X → Bool) (xs : List X) (k : ℕ) (d : X) → list_any p xs ≡ false → k < length xs → p (get_or xs k d) ≡ false
none_at p xs k d none inside = false_from_ne_true (p (get_or xs k d)) (λ passes. false≢true (sym none ∙ list_any_at p xs k d inside passes))

-- a state whose words after the fields are not other than 0
pub plain_of : (fields : ℕ) (state : State) → is_stray fields state ≡ false → IsPlain fields state
plain_of fields state none k past =
    let words : List ℕ = state.words in
    let back : List ℕ = drop fields words in
    let place : fields + (k - fields) ≡ k = omega arith in
    let here : get_or back (k - fields) 0 ≡ get_or words k 0 = get_or-drop fields words (k - fields) 0 ∙ ap (λ (i : ℕ). get_or words i 0) place in
    elim (cases_lt (k - fields) (length back)) [
      | inl inside ↦ sym here ∙ exact_unsigned_eq (get_or back (k - fields) 0) 0 (not-false (get_or back (k - fields) 0 == 0) (none_at (λ w. not (w == 0)) back (k - fields) 0 none inside))
      | inr outside ↦ sym here ∙ get_or_past back (k - fields) 0 outside
    ]

-- and states none of which has such a word
pub all_plain : (fields : ℕ) (states : List State) → list_any (is_stray fields) states ≡ false → All (IsPlain fields) states
all_plain fields states none u d inside = plain_of fields (get_or states u d) (none_at (is_stray fields) states u d none inside)

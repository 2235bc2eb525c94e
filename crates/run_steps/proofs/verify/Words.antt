-- Words that are cut, and fields that they call.
use Rattle.std.proofs.Common.{◌≡◌, ◌≢◌, ℕ, ◌+◌, ◌-◌, ◌≤◌, ◌<◌, ◌==◌, true, false, nat_lt, List, [], ◌∷◌, ◌++◌, length, length-append, take, get_or, slice_index, Option, Some, None, MatchOption, IfSome, Bor, inl, inr, refl, sym, ap, ◌∙◌, arith}
use Rattle.std.specs.List.{before_first, after_first, position_or_len}
use Rattle.std.specs.Option.{option_map, unwrap_or}
use Rattle.std.proofs.Math.Seq.{take-append_seam, take-length, get_or-append_seam}
use Rattle.std.proofs.lemmas.Bool.{cases_Bool}
use Rattle.std.proofs.lemmas.Bool.Decides.{nat_tests, Decides-eqb}
use Rattle.std.proofs.lemmas.List.{take_more}
use Rattle.rule_check.specs.Value.{place}
use Rattle.rule_check.specs.WellFormed.{is_among}
use Rattle.rule_check.proofs.Runs.{place-lt}
use Rattle.run_steps.specs.verify.Fields.{is_equals, split_equals, field_called}
use Rattle.run_steps.specs.verify.Meaning.{without_colon}

-- a word that is cut at its first =
pub equals-split : (word : List ℕ) (r : Option (Bor (List ℕ) × Bor (List ℕ))) → MatchOption r (position_or_len is_equals word ≡ length word) (λ x. (position_or_len is_equals word < length word) × (x.0.now ≡ before_first is_equals word) × (x.1.now ≡ after_first is_equals word))
    → option_map (λ (x : Bor (List ℕ) × Bor (List ℕ)). (x.0.now, x.1.now)) r ≡ split_equals word
equals-split word None h = (let t : nat_lt (position_or_len is_equals word) (length word) ≡ false = grind (arith, nat_tests) in rw t refl)
equals-split word (Some x) h =
    let inside = h.0 in
    let t : nat_lt (position_or_len is_equals word) (length word) ≡ true = grind (arith, nat_tests) in
    rw (t, h.1, h.2) refl

-- a word with a colon at its end
pub colon-off : (word front : List ℕ) → word ≡ front ++ 58 ∷ [] → front ≡ without_colon word
colon-off word front e =
    let many : length word - 1 ≡ length front = omega (arith, ap length e, length-append front (58 ∷ [])) in
    let last : slice_index word (length word - 1) ≡ 58 = ap (slice_index word) many ∙ ap (λ (w : List ℕ). get_or w (length front) 0) e ∙ get_or-append_seam front 58 [] 0 in
    let test : (slice_index word (length word - 1) == 58) ≡ true = (Decides-eqb _ 58).1 last in
    let rest : take (length word - 1) word ≡ front = ap (λ n. take n word) many ∙ ap (λ (w : List ℕ). take (length front) w) e ∙ take-append_seam front (58 ∷ []) in
    rw test (sym rest)

-- a word that ends with its last byte
pub whole : (word : List ℕ) → 1 ≤ length word → word ≡ take (length word - 1) word ++ slice_index word (length word - 1) ∷ []
whole word some =
    let n : length word - 1 + 1 ≡ length word = omega arith in
    sym (ap (λ k. take k word) n ∙ take-length word) ∙ take_more word (length word - 1) 0 (omega arith)

pub colon-none : (word : List ℕ) → ((front : List ℕ) → word ≢ front ++ 58 ∷ []) → word ≡ without_colon word
colon-none [] h = refl
colon-none (b ∷ bytes) h =
    let word = b ∷ bytes in
    elim (cases_Bool (slice_index word (length word - 1) == 58)) [
      | inl is ↦ absurd (h (take (length word - 1) word) (whole word (omega arith) ∙ ap (λ (x : ℕ). take (length word - 1) word ++ x ∷ []) ((Decides-eqb _ 58).0 is)))
      | inr other ↦ rw other refl
    ]

pub colon : (word : Bor (List ℕ)) (r : Option (Bor (List ℕ))) → MatchOption r ((front : List ℕ) → word.now ≢ front ++ 58 ∷ []) (λ x. word.now ≡ x.now ++ 58 ∷ []) → (unwrap_or r word).now ≡ without_colon word.now
colon word None h = colon-none word.now h
colon word (Some x) h = colon-off word.now x.now h

-- the place of a field is one of the fields'
pub field-few : (names : List (List ℕ)) (name : List ℕ) (found : Option ℕ) → length names ≤ 8 → found ≡ field_called names name → IfSome found (λ k. k < 8)
field-few names name None few h = tt
field-few names name (Some k) few h =
    elim (cases_Bool (is_among names name)) [
      | inl is ↦ (
          let e : Some k ≡ Some (place names name) = h ∙ rw is refl in
          let same : k ≡ place names name = cc in
          let less = place-lt names name is in
          omega arith)
      | inr other ↦ absurd (let e : Some k ≡ None = h ∙ rw other refl in cc)
    ]

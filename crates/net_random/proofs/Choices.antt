-- One more choice.
use Rattle.std.proofs.Common.{◌≡◌, ℕ, ◌+◌, ◌<◌, ◌≤◌, ◌==◌, true, false, List, [], ◌∷◌, ◌++◌, length, length-append, refl, ap, sym, subst, ◌∙◌, inl, inr, arith}
use Rattle.std.specs.List.{filter, range_with_len, AllByRecursion}
use Rattle.std.proofs.lemmas.Bool.{cases_Bool}
use Rattle.std.proofs.lemmas.Bool.Decides.{nat_tests}
use Rattle.std.proofs.lemmas.List.Folds.{list_any-append}
use Rattle.std.proofs.lemmas.List.FromFn.{length-range_with_len}
use Rattle.net_random.specs.Growth.{has, has_twice, IsChoice, with_choice}
use Rattle.net_random.proofs.Counting.{filter_same, count_in}

below_push : (u x : ℕ) (xs : List ℕ) → AllByRecursion (λ y. y < u) xs → x < u → AllByRecursion (λ y. y < u) (xs ++ x ∷ [])
below_push u x [] below low = (low, tt)
below_push u x (y ∷ ys) below low = (below.0, below_push u x ys below.1 low)

once_push : (x : ℕ) (xs : List ℕ) → has_twice xs ≡ false → has x xs ≡ false → has_twice (xs ++ x ∷ []) ≡ false
once_push x [] once new = refl
once_push x (y ∷ ys) once new =
    let rest = once_push x ys (grind (arith, nat_tests)) (grind (arith, nat_tests)) in
    rw (list_any-append (λ z. z == y) ys (x ∷ []), rest) (grind (arith, nat_tests))

pub one_more : (u x : ℕ) (xs : List ℕ) → IsChoice u xs → x < u → IsChoice u (with_choice x xs)
one_more u x xs choice low =
    elim (cases_Bool (has x xs)) [
      | inl there ↦ rw there choice
      | inr new ↦ rw new (record { below = below_push u x xs choice.below low; once = once_push x xs choice.once new })
    ]

pub few_more : (x : ℕ) (xs : List ℕ) → length (with_choice x xs) ≤ length xs + 1
few_more x xs =
    elim (cases_Bool (has x xs)) [
      | inl there ↦ rw there (omega arith)
      | inr new ↦ rw new (omega (arith, length-append xs (x ∷ [])))
    ]

keeps : (w x : ℕ) (xs : List ℕ) → has w xs ≡ true → has w (with_choice x xs) ≡ true
keeps w x xs h =
    elim (cases_Bool (has x xs)) [
      | inl there ↦ rw there h
      | inr new ↦ rw (new, list_any-append (λ z. z == w) xs (x ∷ []), h) refl
    ]

takes : (x : ℕ) (xs : List ℕ) → has x (with_choice x xs) ≡ true
takes x xs =
    elim (cases_Bool (has x xs)) [
      | inl there ↦ rw there there
      | inr new ↦ rw (new, list_any-append (λ z. z == x) xs (x ∷ [])) (grind (arith, nat_tests))
    ]

pub all_more : (x : ℕ) (xs : List ℕ) → ((w : ℕ) → w < x → has w xs ≡ true) → (w : ℕ) → w < x + 1 → has w (with_choice x xs) ≡ true
all_more x xs before w low =
    elim (cases_Bool (w == x)) [
      | inl new ↦ let is : x ≡ w = grind (arith, nat_tests) in subst (λ k. has k (with_choice x xs) ≡ true) is (takes x xs)
      | inr old ↦ let less : w < x = grind (arith, nat_tests) in keeps w x xs (before w less)
    ]

all_kept : (xs : List ℕ) → filter (λ x. true) xs ≡ xs
all_kept [] = refl
all_kept (x ∷ xs) = ap (λ ys. x ∷ ys) (all_kept xs)

-- all numbers below u
pub whole : (u : ℕ) (xs : List ℕ) → IsChoice u xs → ((w : ℕ) → w < u → has w xs ≡ true) → length xs ≡ u
whole u xs choice all =
    sym (count_in xs u choice.below choice.once)
    ∙ ap length (filter_same (λ w. has w xs) (λ w. true) 0 u (λ w low high. all w (omega arith)) ∙ all_kept (range_with_len 0 u))
    ∙ length-range_with_len 0 u

-- How many numbers of a row stand in a list.
use Rattle.std.proofs.Common.{◌≡◌, ℕ, ◌+◌, ◌<◌, ◌≤◌, ◌==◌, Bool, true, false, ◌||◌, List, [], ◌∷◌, length, refl, inl, inr, arith, zero, suc}
use Rattle.std.specs.List.{filter, range_with_len, AllByRecursion}
use Rattle.std.proofs.lemmas.Bool.{cases_Bool}
use Rattle.std.proofs.lemmas.Bool.Decides.{nat_tests}
use Rattle.net_random.specs.Growth.{has, has_twice}

-- tests that agree on a row keep the same numbers of it
pub filter_same : (p q : ℕ → Bool) (a k : ℕ) → ((x : ℕ) → a ≤ x → x < a + k → p x ≡ q x) → filter p (range_with_len a k) ≡ filter q (range_with_len a k)
filter_same p q a zero same = refl
filter_same p q a (suc k) same =
    rw (same a (omega arith) (omega arith), filter_same p q (a + 1) k (λ x low high. same x (omega arith) (omega arith))) refl

-- two tests that never both pass
pub either_is : (p q : ℕ → Bool) → ((x : ℕ) → p x ≡ true → q x ≡ false) → (xs : List ℕ)
    → length (filter (λ x. p x || q x) xs) ≡ length (filter p xs) + length (filter q xs)
either_is p q apart [] = refl
either_is p q apart (x ∷ xs) =
    elim (cases_Bool (p x)) [
      | inl a ↦ rw (a, apart x a) (omega (arith, either_is p q apart xs))
      | inr a ↦
          elim (cases_Bool (q x)) [
            | inl b ↦ rw (a, b) (omega (arith, either_is p q apart xs))
            | inr b ↦ rw (a, b) (omega (arith, either_is p q apart xs))
          ]
    ]

nothing : (xs : List ℕ) → length (filter (λ x. false) xs) ≡ 0
nothing [] = refl
nothing (x ∷ xs) = nothing xs

-- a number stands once in a row that reaches over it
past : (x a k : ℕ) → x < a → length (filter (λ w. x == w) (range_with_len a k)) ≡ 0
past x a zero low = refl
past x a (suc k) low =
    let other : (x == a) ≡ false = grind (arith, nat_tests) in
    rw other (past x (a + 1) k (omega arith))

pub once_in : (x a k : ℕ) → a ≤ x → x < a + k → length (filter (λ w. x == w) (range_with_len a k)) ≡ 1
once_in x a zero low high = absurd (omega arith)
once_in x a (suc k) low high =
    elim (cases_Bool (x == a)) [
      | inl here ↦
          let is : x ≡ a = grind (arith, nat_tests) in
          rw here (omega (arith, past x (a + 1) k (omega arith)))
      | inr other ↦
          let above : a + 1 ≤ x = grind (arith, nat_tests) in
          rw other (once_in x (a + 1) k above (omega arith))
    ]

-- different numbers of a row: the row has as many of them as they are
pub count_in : (xs : List ℕ) (u : ℕ) → AllByRecursion (λ x. x < u) xs → has_twice xs ≡ false → length (filter (λ w. has w xs) (range_with_len 0 u)) ≡ length xs
count_in [] u below once = nothing (range_with_len 0 u)
count_in (x ∷ xs) u below once =
    let new : has x xs ≡ false = grind (arith, nat_tests) in
    let rest : has_twice xs ≡ false = grind (arith, nat_tests) in
    omega (arith, either_is (λ w. x == w) (λ w. has w xs) (λ w e. apart w e new) (range_with_len 0 u), once_in x 0 u (omega arith) (omega arith), count_in xs u below.1 rest) where
      apart : (w : ℕ) → (x == w) ≡ true → has x xs ≡ false → has w xs ≡ false
      apart w e new = let is : x ≡ w = grind (arith, nat_tests) in rw (← is) new

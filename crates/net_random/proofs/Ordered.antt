-- Lists of numbers that never fall: those in which each number stands as often are equal.
use Rattle.std.proofs.Common.{◌≡◌, ℕ, ◌+◌, ◌<◌, ◌≤◌, ◌==◌, Bool, true, false, nat_lt, List, [], ◌∷◌, map, refl, ap, subst, ◌∙◌, inl, inr, arith, zero, suc, if◌then◌else◌}
use Rattle.std.specs.List.{sum_by, AllByRecursion, filter, range_with_len}
use Rattle.std.specs.List.Sorted.{IsNonDecreasingBy}
use Rattle.std.proofs.lemmas.Bool.{cases_Bool}
use Rattle.std.proofs.lemmas.Bool.Decides.{nat_tests}
use Rattle.std.proofs.lemmas.List.Elements.{recursion_from_All}
use Rattle.std.proofs.lemmas.List.Sorted.{IsNonDecreasingBy-drop}
use Rattle.std.proofs.lemmas.List.Sums.{sum_by-cons}

-- 1 where the test passes, and 0 else
abbrev pub one_if : Bool → ℕ
one_if b = if b then 1 else 0

-- how often a number stands in a list
abbrev pub times : ℕ → List ℕ → ℕ
times w xs = sum_by (λ x. one_if (x == w)) xs

-- each number is at most those after it
abbrev pub Ascends : List ℕ → Type 0
Ascends [] = Unit {0}
Ascends (x ∷ xs) = AllByRecursion (λ y. x ≤ y) xs × Ascends xs

pub times_more : (w x : ℕ) (xs : List ℕ) → times w (x ∷ xs) ≡ one_if (x == w) + times w xs
times_more w x xs = sum_by-cons (λ x. one_if (x == w)) x xs

times_same : (x : ℕ) (xs : List ℕ) → times x (x ∷ xs) ≡ 1 + times x xs
times_same x xs = let same : (x == x) ≡ true = grind (arith, nat_tests) in times_more x x xs ∙ ap (λ b. one_if b + times x xs) same

-- another number counts for nothing
passed_over : (b : Bool) (m : ℕ) → b ≡ false → one_if b + m ≡ m
passed_over b m is = rw is (omega arith)

times_low : (w x : ℕ) (xs : List ℕ) → w < x → AllByRecursion (λ y. x ≤ y) xs → times w xs ≡ 0
times_low w x [] low all = refl
times_low w x (y ∷ ys) low all =
    let high = all.0 in
    let other : (y == w) ≡ false = grind (arith, nat_tests) in
    times_more w y ys ∙ passed_over (y == w) (times w ys) other ∙ times_low w x ys low all.1

times_before : (w x : ℕ) (xs : List ℕ) → w < x → Ascends (x ∷ xs) → times w (x ∷ xs) ≡ 0
times_before w x xs low up =
    let other : (x == w) ≡ false = grind (arith, nat_tests) in
    times_more w x xs ∙ passed_over (x == w) (times w xs) other ∙ times_low w x xs low up.0

pub ascending_same : (xs ys : List ℕ) → Ascends xs → Ascends ys → ((w : ℕ) → times w xs ≡ times w ys) → xs ≡ ys
ascending_same [] [] up rise same = refl
ascending_same [] (y ∷ ys) up rise same =
    let none = same y in
    let one = times_same y ys in
    let zero_is : times y [] ≡ 0 = refl in
    absurd (omega arith)
ascending_same (x ∷ xs) [] up rise same =
    let none = same x in
    let one = times_same x xs in
    let zero_is : times x [] ≡ 0 = refl in
    absurd (omega arith)
ascending_same (x ∷ xs) (y ∷ ys) up rise same =
    elim (cases_Bool (nat_lt x y)) [
      | inl low ↦
          let less : x < y = grind (arith, nat_tests) in
          let none = times_before x y ys less rise in
          let one = times_same x xs in
          let is = same x in
          absurd (omega arith)
      | inr high ↦
          elim (cases_Bool (nat_lt y x)) [
            | inl low ↦
                let less : y < x = grind (arith, nat_tests) in
                let none = times_before y x xs less up in
                let one = times_same y ys in
                let is = same y in
                absurd (omega arith)
            | inr even ↦
                let heads : x ≡ y = grind (arith, nat_tests) in
                let tails = ascending_same xs ys up.1 rise.1 (λ w. rest w heads) in
                ap (λ h. h ∷ xs) heads ∙ ap (λ t. y ∷ t) tails
          ]
    ] where
      rest : (w : ℕ) → x ≡ y → times w xs ≡ times w ys
      rest w heads =
          let is = same w in
          let first = times_more w x xs in
          let second = times_more w y ys in
          let alike : one_if (x == w) ≡ one_if (y == w) = ap (λ k. one_if (k == w)) heads in
          omega arith

-- a list that does not fall, by one number of each item
pub ascends : {X : Type 0} (n : X → ℕ) (xs : List X) → IsNonDecreasingBy n xs → Ascends (map n xs)
ascends n [] up = tt
ascends n (x ∷ xs) up = (least n x xs (recursion_from_All (λ y. n x ≤ n y) xs (λ k d high. up 0 (suc k) d (omega arith) (omega arith))), ascends n xs (IsNonDecreasingBy-drop n 1 (x ∷ xs) up)) where
  least : {X : Type 0} (n : X → ℕ) (x : X) (xs : List X) → AllByRecursion (λ y. n x ≤ n y) xs → AllByRecursion (λ m. n x ≤ m) (map n xs)
  least n x [] all = tt
  least n x (y ∷ ys) all = (all.0, least n x ys all.1)

-- the numbers of a row that pass a test
all_from : (p : ℕ → Bool) (x a k : ℕ) → x ≤ a → AllByRecursion (λ y. x ≤ y) (filter p (range_with_len a k))
all_from p x a zero low = tt
all_from p x a (suc k) low =
    elim (cases_Bool (p a)) [
      | inl here ↦ rw here (low, all_from p x (a + 1) k (omega arith))
      | inr other ↦ rw other (all_from p x (a + 1) k (omega arith))
    ]

pub kept_ascends : (p : ℕ → Bool) (a k : ℕ) → Ascends (filter p (range_with_len a k))
kept_ascends p a zero = tt
kept_ascends p a (suc k) =
    elim (cases_Bool (p a)) [
      | inl here ↦ rw here (all_from p a (a + 1) k (omega arith), kept_ascends p (a + 1) k)
      | inr other ↦ rw other (kept_ascends p (a + 1) k)
    ]

times_past : (p : ℕ → Bool) (w a k : ℕ) → w < a → times w (filter p (range_with_len a k)) ≡ 0
times_past p w a k low = times_low w a (filter p (range_with_len a k)) low (all_from p a a k (omega arith))

pub times_kept : (p : ℕ → Bool) (w a k : ℕ) → a ≤ w → (a + k ≤ w → p w ≡ false) → times w (filter p (range_with_len a k)) ≡ one_if (p w)
times_kept p w a zero low past = let none = past (omega arith) in rw none refl
times_kept p w a (suc k) low past =
    elim (cases_Bool (a == w)) [
      | inl here ↦
          let is : a ≡ w = grind (arith, nat_tests) in
          subst (λ m. times m (filter p (range_with_len a (suc k))) ≡ one_if (p m)) is (at_head p a k)
      | inr other ↦
          let above : a + 1 ≤ w = grind (arith, nat_tests) in
          let rest = times_kept p w (a + 1) k above (λ high. past (omega arith)) in
          elim (cases_Bool (p a)) [
            | inl passes ↦ rw passes (times_more w a (filter p (range_with_len (a + 1) k)) ∙ passed_over (a == w) (times w (filter p (range_with_len (a + 1) k))) other ∙ rest)
            | inr fails ↦ rw fails rest
          ]
    ] where
      at_head : (p : ℕ → Bool) (a k : ℕ) → times a (filter p (range_with_len a (suc k))) ≡ one_if (p a)
      at_head p a k =
          let none = times_past p a (a + 1) k (omega arith) in
          elim (cases_Bool (p a)) [
            | inl passes ↦ rw passes (times_same a (filter p (range_with_len (a + 1) k)) ∙ ap (λ m. 1 + m) none)
            | inr fails ↦ rw fails none
          ]

-- Each link is shown at two nodes, so a network shows twice as many neighbours as it has links.
use Rattle.std.proofs.Common.{◌≡◌, ℕ, ◌+◌, ◌*◌, ◌<◌, ◌≤◌, ◌==◌, Bool, true, false, ◌||◌, ◌&&◌, List, [], ◌∷◌, length, refl, ap, ◌∙◌, inl, inr, arith, zero, suc, if◌then◌else◌}
use Rattle.std.specs.List.{list_any, filter, sum_by, range_with_len}
use Rattle.std.proofs.lemmas.Bool.{cases_Bool, or_parts}
use Rattle.std.proofs.lemmas.Bool.Decides.{nat_tests}
use Rattle.std.proofs.lemmas.List.{length-map}
use Rattle.std.proofs.lemmas.List.Folds.{fold-map}
use Rattle.std.proofs.lemmas.List.Sums.{sum_by-cons}
use Rattle.link_net.specs.Links.{AllWithin, is_self_link, has_link_twice, joins, are_linked, linked_with, neighbours_of, network_of}
use Rattle.link_net.specs.Neighbours.{numbers_below}
use Rattle.net_text.specs.Listing.{Link}

-- functions that agree on a range
sum_agrees : (f g : ℕ → ℕ) (a k : ℕ) → ((u : ℕ) → a ≤ u → u < a + k → f u ≡ g u) → sum_by f (range_with_len a k) ≡ sum_by g (range_with_len a k)
sum_agrees f g a zero same = refl
sum_agrees f g a (suc k) same =
    let here = same a (omega arith) (omega arith) in
    let rest = sum_agrees f g (a + 1) k (λ u low high. same u (omega arith) (omega arith)) in
    omega (arith, sum_by-cons f a (range_with_len (a + 1) k), sum_by-cons g a (range_with_len (a + 1) k))

filter_agrees : (p q : ℕ → Bool) (a k : ℕ) → ((x : ℕ) → a ≤ x → x < a + k → p x ≡ q x) → filter p (range_with_len a k) ≡ filter q (range_with_len a k)
filter_agrees p q a zero same = refl
filter_agrees p q a (suc k) same =
    rw (same a (omega arith) (omega arith), filter_agrees p q (a + 1) k (λ x low high. same x (omega arith) (omega arith))) refl

-- two tests of which never both pass
either_is : (p q : ℕ → Bool) → ((x : ℕ) → p x ≡ true → q x ≡ false) → (xs : List ℕ)
    → length (filter (λ x. p x || q x) xs) ≡ length (filter p xs) + length (filter q xs)
either_is p q apart [] = refl
either_is p q apart (x ∷ xs) =
    elim (cases_Bool (p x)) [
      | inl a ↦ rw (a, apart x a) (omega (arith, either_is p q apart xs))
      | inr a ↦
          elim (cases_Bool (q x)) [
            | inl b ↦ rw (a, b) (omega (arith, either_is p q apart xs))
            | inr b ↦ rw (a, b) (omega (arith, either_is p q apart xs))
          ]
    ]

nothing : (xs : List ℕ) → length (filter (λ x. false) xs) ≡ 0
nothing [] = refl
nothing (x ∷ xs) = nothing xs

-- a number stands once in a range that reaches over it
past : (x a k : ℕ) → x < a → length (filter (λ w. w == x) (range_with_len a k)) ≡ 0
past x a zero low = refl
past x a (suc k) low =
    let other : (a == x) ≡ false = grind (arith, nat_tests) in
    rw other (past x (a + 1) k (omega arith))

once_in : (x a k : ℕ) → a ≤ x → x < a + k → length (filter (λ w. w == x) (range_with_len a k)) ≡ 1
once_in x a zero low high = absurd (omega arith)
once_in x a (suc k) low high =
    elim (cases_Bool (a == x)) [
      | inl here ↦
          let is : x ≡ a = grind (arith, nat_tests) in
          rw here (omega (arith, past x (a + 1) k (omega arith)))
      | inr other ↦
          let above : a + 1 ≤ x = grind (arith, nat_tests) in
          rw other (once_in x (a + 1) k above (omega arith))
    ]

-- 1 at a number, and 0 at the others
abbrev at : ℕ → ℕ → ℕ
at x u = if u == x then 1 else 0

sum_past : (x a k : ℕ) → x < a → sum_by (at x) (range_with_len a k) ≡ 0
sum_past x a zero low = refl
sum_past x a (suc k) low =
    let here : at x a ≡ 0 = (let other : (a == x) ≡ false = grind (arith, nat_tests) in rw other refl) in
    omega (arith, sum_by-cons (at x) a (range_with_len (a + 1) k), sum_past x (a + 1) k (omega arith))

sum_at : (x a k : ℕ) → a ≤ x → x < a + k → sum_by (at x) (range_with_len a k) ≡ 1
sum_at x a zero low high = absurd (omega arith)
sum_at x a (suc k) low high =
    elim (cases_Bool (a == x)) [
      | inl same ↦
          let is : x ≡ a = grind (arith, nat_tests) in
          let here : at x a ≡ 1 = rw same refl in
          omega (arith, sum_by-cons (at x) a (range_with_len (a + 1) k), sum_past x (a + 1) k (omega arith))
      | inr other ↦
          let above : a + 1 ≤ x = grind (arith, nat_tests) in
          let here : at x a ≡ 0 = rw other refl in
          omega (arith, sum_by-cons (at x) a (range_with_len (a + 1) k), sum_at x (a + 1) k above (omega arith))
    ]

sum_both : (f g h : ℕ → ℕ) (xs : List ℕ) → sum_by (λ u. (f u + g u) + h u) xs ≡ (sum_by f xs + sum_by g xs) + sum_by h xs
sum_both f g h [] = refl
sum_both f g h (x ∷ xs) =
    omega (arith, sum_by-cons (λ u. (f u + g u) + h u) x xs, sum_by-cons f x xs, sum_by-cons g x xs, sum_by-cons h x xs, sum_both f g h xs)

-- how many pairs, taken both ways round, the links join
abbrev pairs : ℕ → List Link → ℕ
pairs n ls = sum_by (λ u. length (linked_with n ls u)) (numbers_below n)

linked_back : (ls : List Link) (u w : ℕ) → are_linked ls u w ≡ are_linked ls w u
linked_back [] u w = refl
linked_back (l ∷ ls) u w =
    let turned : joins u w l ≡ joins w u l = grind (arith, nat_tests) in
    rw (turned, linked_back ls u w) refl

joins_ends : (u w x y : ℕ) → (x == y) ≡ false → u ≡ x → ((u == x && w == y) || (u == y && w == x)) ≡ (w == y)
joins_ends u w x y apart is = grind (arith, nat_tests)

joins_turned : (u w x y : ℕ) → (x == y) ≡ false → u ≡ y → ((u == x && w == y) || (u == y && w == x)) ≡ (w == x)
joins_turned u w x y apart is = grind (arith, nat_tests)

-- the nodes that a link alone joins with u
of_link : (n u : ℕ) (l : Link) → l.0 < n → l.1 < n → is_self_link l ≡ false → length (filter (λ w. joins u w l) (numbers_below n)) ≡ at l.0 u + at l.1 u
of_link n u l first second apart =
    elim (cases_Bool (u == l.0)) [
      | inl here ↦
          let is : u ≡ l.0 = grind (arith, nat_tests) in
          let away : (u == l.1) ≡ false = grind (arith, nat_tests) in
          let one = once_in l.1 0 n (omega arith) (omega arith) in
          let kept = ap length (filter_agrees (λ w. joins u w l) (λ w. w == l.1) 0 n (λ w low high. joins_ends u w l.0 l.1 apart is)) in
          let a : at l.0 u ≡ 1 = rw here refl in
          let b : at l.1 u ≡ 0 = rw away refl in
          omega arith
      | inr away ↦
          elim (cases_Bool (u == l.1)) [
            | inl here ↦
                let is : u ≡ l.1 = grind (arith, nat_tests) in
                let one = once_in l.0 0 n (omega arith) (omega arith) in
                let kept = ap length (filter_agrees (λ w. joins u w l) (λ w. w == l.0) 0 n (λ w low high. joins_turned u w l.0 l.1 apart is)) in
                let a : at l.0 u ≡ 0 = rw away refl in
                let b : at l.1 u ≡ 1 = rw here refl in
                omega arith
            | inr neither ↦
                let none = nothing (numbers_below n) in
                let kept = ap length (filter_agrees (λ w. joins u w l) (λ w. false) 0 n (λ w low high. rw (away, neither) refl)) in
                let a : at l.0 u ≡ 0 = rw away refl in
                let b : at l.1 u ≡ 0 = rw neither refl in
                omega arith
          ]
    ]

ends_of : (u w : ℕ) (l : Link) (ls : List Link) → are_linked ls l.0 l.1 ≡ false → joins u w l ≡ true → are_linked ls u w ≡ false
ends_of u w l ls new hit =
    elim (cases_Bool (u == l.0 && w == l.1)) [
      | inl there ↦
          let first : u ≡ l.0 = grind (arith, nat_tests) in
          let second : w ≡ l.1 = grind (arith, nat_tests) in
          rw (first, second) new
      | inr back ↦
          let first : u ≡ l.1 = grind (arith, nat_tests) in
          let second : w ≡ l.0 = grind (arith, nat_tests) in
          rw (first, second) (linked_back ls l.1 l.0 ∙ new)
    ]

one_more : (n : ℕ) (l : Link) (ls : List Link) → l.0 < n → l.1 < n → is_self_link l ≡ false → are_linked ls l.0 l.1 ≡ false → pairs n (l ∷ ls) ≡ 2 + pairs n ls
one_more n l ls first second apart new =
    let split = sum_agrees (λ u. length (linked_with n (l ∷ ls) u)) (λ u. (at l.0 u + at l.1 u) + length (linked_with n ls u)) 0 n
    (λ u low high. either_is (λ w. joins u w l) (are_linked ls u) (λ w hit. ends_of u w l ls new hit) (numbers_below n)
    ∙ ap (λ k. k + length (linked_with n ls u)) (of_link n u l first second apart)) in
    omega (arith, split, sum_both (at l.0) (at l.1) (λ u. length (linked_with n ls u)) (numbers_below n), sum_at l.0 0 n (omega arith) (omega arith), sum_at l.1 0 n (omega arith) (omega arith))

no_pairs : (n a k : ℕ) → sum_by (λ u. length (linked_with {W = ℕ} n [] u)) (range_with_len a k) ≡ 0
no_pairs n a zero = refl
no_pairs n a (suc k) =
    omega (arith, sum_by-cons (λ u. length (linked_with {W = ℕ} n [] u)) a (range_with_len (a + 1) k), nothing (numbers_below n), no_pairs n (a + 1) k)

all_pairs : (n : ℕ) (ls : List Link) → AllWithin n ls → list_any is_self_link ls ≡ false → has_link_twice ls ≡ false → pairs n ls ≡ 2 * length ls
all_pairs n [] within straight once = no_pairs n 0 n
all_pairs n (l ∷ ls) within straight once =
    let (apart, others) = or_parts (is_self_link l) (list_any is_self_link ls) straight in
    let (new, rest) = or_parts (list_any (joins l.0 l.1) ls) (has_link_twice ls) once in
    omega (arith, one_more n l ls within.0.0 within.0.1 apart new, all_pairs n ls within.1 others rest)

-- the network of links that stand once shows each of them twice
pub shown_twice : (n : ℕ) (ls : List Link) → AllWithin n ls → list_any is_self_link ls ≡ false → has_link_twice ls ≡ false → sum_by length (network_of n ls) ≡ 2 * length ls
shown_twice n ls within straight once =
    fold-map (λ a (row : List (ℕ × ℕ)). a + length row) (neighbours_of n ls) 0 (numbers_below n)
    ∙ sum_agrees (λ u. length (neighbours_of n ls u)) (λ u. length (linked_with n ls u)) 0 n (λ u low high. length-map (linked_with n ls u) _)
    ∙ all_pairs n ls within straight once

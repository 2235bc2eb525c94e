-- Functions and tests over the numbers of a range.
use Rattle.std.proofs.Common.{◌≡◌, ℕ, ◌+◌, ◌<◌, ◌≤◌, ◌==◌, Bool, true, false, List, [], ◌∷◌, length, get_or, zero, suc, refl, map, arith, inl, inr}
use Rattle.std.proofs.lemmas.Bool.{cases_Bool, or_parts}
use Rattle.std.proofs.lemmas.Bool.Decides.{nat_tests}
use Rattle.std.proofs.lemmas.List.Elements.{All-from_recursion}
use Rattle.std.specs.List.{list_any, filter, range_with_len, AllByRecursion}
use Rattle.link_net.proofs.Rows.{Rises}

-- functions that agree on the range
pub map_agrees : {X : Type 0} (f g : ℕ → X) (a n : ℕ) → ((u : ℕ) → a ≤ u → u < a + n → f u ≡ g u) → map f (range_with_len a n) ≡ map g (range_with_len a n)
map_agrees f g a zero same = refl
map_agrees f g a (suc n) same = rw (same a (omega arith) (omega arith), map_agrees f g (a + 1) n (λ u low high. same u (omega arith) (omega arith)))

pub any_agrees : (p q : ℕ → Bool) (a n : ℕ) → ((u : ℕ) → a ≤ u → u < a + n → p u ≡ q u) → list_any p (range_with_len a n) ≡ list_any q (range_with_len a n)
any_agrees p q a zero same = refl
any_agrees p q a (suc n) same = rw (same a (omega arith) (omega arith), any_agrees p q (a + 1) n (λ u low high. same u (omega arith) (omega arith)))

-- a test that no number passes
pub none_in_range : (p : ℕ → Bool) (a n u : ℕ) → list_any p (range_with_len a n) ≡ false → a ≤ u → u < a + n → p u ≡ false
none_in_range p a zero u none low high = absurd (omega arith)
none_in_range p a (suc n) u none low high =
    let parts = or_parts (p a) (list_any p (range_with_len (a + 1) n)) none in
    elim (cases_Bool (a == u)) [
      | inl same ↦ let is : a ≡ u = grind (arith, nat_tests) in rw is at parts.0
      | inr other ↦ let below : a < u = grind (arith, nat_tests) in none_in_range p (a + 1) n u parts.1 (omega arith) (omega arith)
    ]

-- a test that the first number fails
pub any_further : (p : ℕ → Bool) (a n m : ℕ) → n ≡ suc m → p a ≡ false → list_any p (range_with_len a n) ≡ list_any p (range_with_len (a + 1) m)
any_further p a n m is none = rw (is, none) refl

-- what a filter of a range keeps
pub kept_above : (p : ℕ → Bool) (a b n : ℕ) → a < b → AllByRecursion (λ y. a < y) (filter p (range_with_len b n))
kept_above p a b zero low = tt
kept_above p a b (suc n) low =
    elim (cases_Bool (p b)) [
      | inl keeps ↦ rw keeps (low, kept_above p a (b + 1) n (omega arith))
      | inr drops ↦ rw drops (kept_above p a (b + 1) n (omega arith))
    ]

pub kept_rise : (p : ℕ → Bool) (a n : ℕ) → Rises (filter p (range_with_len a n))
kept_rise p a zero = tt
kept_rise p a (suc n) =
    elim (cases_Bool (p a)) [
      | inl keeps ↦ rw keeps (kept_above p a (a + 1) n (omega arith), kept_rise p (a + 1) n)
      | inr drops ↦ rw drops (kept_rise p (a + 1) n)
    ]

pub kept_pass : (p : ℕ → Bool) (a n : ℕ) → AllByRecursion (λ y. (p y ≡ true) × (y < a + n)) (filter p (range_with_len a n))
kept_pass p a zero = tt
kept_pass p a (suc n) =
    let rest = rw (later a n) at (kept_pass p (a + 1) n) in
    elim (cases_Bool (p a)) [
      | inl keeps ↦ rw keeps ((keeps, omega arith), rest)
      | inr drops ↦ rw drops rest
    ] where
      later : (a n : ℕ) → (a + 1) + n ≡ a + suc n
      later a n = omega arith

-- the places of a filter of a range
abbrev pub Place : List ℕ → ℕ → Type 0
Place ys x = (k : ℕ) × (k < length ys) × (get_or ys k 0 ≡ x)

one_further : (y x : ℕ) (ys : List ℕ) → Place ys x → Place (y ∷ ys) x
one_further y x ys place = (suc place.0, omega (arith, place.1), place.2)

pub kept_place : (p : ℕ → Bool) (a n x : ℕ) → a ≤ x → x < a + n → p x ≡ true → Place (filter p (range_with_len a n)) x
kept_place p a zero x low high pass = absurd (omega arith)
kept_place p a (suc n) x low high pass =
    elim (cases_Bool (a == x)) [
      | inl same ↦
          let is : a ≡ x = grind (arith, nat_tests) in
          let keeps : p a ≡ true = rw is pass in
          rw keeps (0, omega arith, is)
      | inr other ↦
          let below : a < x = grind (arith, nat_tests) in
          let place = kept_place p (a + 1) n x (omega arith) (omega arith) pass in
          elim (cases_Bool (p a)) [
            | inl keeps ↦ rw keeps (one_further a x (filter p (range_with_len (a + 1) n)) place)
            | inr drops ↦ rw drops place
          ]
    ]

-- numbers that rise, by their places
pub rises_at : (ys : List ℕ) (i j : ℕ) → Rises ys → i < j → j < length ys → get_or ys i 0 < get_or ys j 0
rises_at [] i j up low high = absurd (omega (arith, high))
rises_at (y ∷ ys) i zero up low high = absurd (omega arith)
rises_at (y ∷ ys) zero (suc j) up low high = All-from_recursion (λ z. y < z) ys up.0 j 0 (omega (arith, high))
rises_at (y ∷ ys) (suc i) (suc j) up low high = rises_at ys i j up.1 (omega arith) (omega (arith, high))

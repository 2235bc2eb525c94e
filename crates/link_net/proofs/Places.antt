-- The first place at which a test passes, and the first number of a range.
use Rattle.std.proofs.Common.{◌≡◌, ◌∙◌, ℕ, ◌+◌, ◌<◌, ◌≤◌, zero, suc, Bool, true, false, List, [], ◌∷◌, map, cond, Some, None, is_some, refl, sym, ap, arith, inl, inr}
use Rattle.std.proofs.lemmas.Bool.{cases_Bool}
use Rattle.std.proofs.lemmas.Iterator.Adapters.{position_from-zero}
use Rattle.std.specs.List.{list_any, position, position_from, find, range_with_len}

some_from : {X : Type 0} (p : X → Bool) (i : ℕ) (xs : List X) → is_some (position_from p i xs) ≡ list_any p xs
some_from p i [] = refl
some_from p i (x ∷ xs) =
    elim (cases_Bool (p x)) [
      | inl hit ↦ rw hit refl
      | inr miss ↦ rw miss (some_from p (i + 1) xs)
    ]

-- there is a first place where some element passes
pub some_position : {X : Type 0} (p : X → Bool) (xs : List X) → is_some (position p xs) ≡ list_any p xs
some_position p xs = ap is_some (position_from-zero p xs) ∙ some_from p 0 xs

pub any_from_place : {X : Type 0} (p : X → Bool) (xs : List X) (i : ℕ) → position p xs ≡ Some i → list_any p xs ≡ true
any_from_place p xs i h = sym (some_position p xs) ∙ ap is_some h

pub none_from_place : {X : Type 0} (p : X → Bool) (xs : List X) → position p xs ≡ None → list_any p xs ≡ false
none_from_place p xs h = sym (some_position p xs) ∙ ap is_some h

map_from : {X Y : Type 0} (f : X → Y) (p : Y → Bool) (i : ℕ) (xs : List X) → position_from p i (map f xs) ≡ position_from (λ x. p (f x)) i xs
map_from f p i [] = refl
map_from f p i (x ∷ xs) = ap (λ r. cond (p (f x)) (Some i) r) (map_from f p (i + 1) xs)

-- a place in a list of images
pub position-map : {X Y : Type 0} (f : X → Y) (p : Y → Bool) (xs : List X) → position p (map f xs) ≡ position (λ x. p (f x)) xs
position-map f p xs = position_from-zero p (map f xs) ∙ map_from f p 0 xs ∙ sym (position_from-zero (λ x. p (f x)) xs)

-- a first element is found where some element passes
pub some_find : {X : Type 0} (p : X → Bool) (xs : List X) → is_some (find p xs) ≡ list_any p xs
some_find p [] = refl
some_find p (x ∷ xs) =
    elim (cases_Bool (p x)) [
      | inl hit ↦ rw hit refl
      | inr miss ↦ rw miss (some_find p xs)
    ]

-- tests that agree on the range find the same number
pub find_agrees : (p q : ℕ → Bool) (a n : ℕ) → ((u : ℕ) → a ≤ u → u < a + n → p u ≡ q u) → find p (range_with_len a n) ≡ find q (range_with_len a n)
find_agrees p q a zero same = refl
find_agrees p q a (suc n) same = rw (same a (omega arith) (omega arith), find_agrees p q (a + 1) n (λ u low high. same u (omega arith) (omega arith)))

-- a test that the first number fails
pub find_further : (p : ℕ → Bool) (a n m : ℕ) → n ≡ suc m → p a ≡ false → find p (range_with_len a n) ≡ find p (range_with_len (a + 1) m)
find_further p a n m is none = rw (is, none) refl

-- what is found in a range is in it
pub find_below : (p : ℕ → Bool) (a n u : ℕ) → find p (range_with_len a n) ≡ Some u → u < a + n
find_below p a zero u h = cc
find_below p a (suc n) u h =
    elim (cases_Bool (p a)) [
      | inl hit ↦ let here = rw hit at h in let same : a ≡ u = cc in omega arith
      | inr miss ↦ let later = rw miss at h in omega (arith, find_below p (a + 1) n u later)
    ]

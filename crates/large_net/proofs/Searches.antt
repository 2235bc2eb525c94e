-- Searches for the first of some numbers.
use Rattle.std.proofs.Common.{◌≡◌, ℕ, ◌+◌, ◌<◌, Bool, true, false, cond, not, List, [], ◌∷◌, map, length, get_or, nat_lt, refl, ap, Some, None, arith}
use Rattle.std.specs.List.{position, position_or_len}
use Rattle.std.proofs.lemmas.Bool.Decides.{nat_tests}
use Rattle.std.proofs.lemmas.List.{length-map}
use Rattle.std.proofs.lemmas.List.Sums.{fails_before_first}

-- a search that finds nothing
pub none_placed : (p : ℕ → Bool) (xs : List ℕ) → position p xs ≡ None → (i : ℕ) → i < length xs → p (get_or xs i 0) ≡ false
none_placed p xs h i low =
    let past = at (nat_lt (position_or_len p xs) (length xs)) h in
    fails_before_first p xs i 0 (before past) where
      at : (b : Bool) → cond b (Some (position_or_len p xs)) None ≡ None → b ≡ false
      at true same = absurd cc
      at false same = refl

      before : nat_lt (position_or_len p xs) (length xs) ≡ false → i < position_or_len p xs
      before past = grind (arith, nat_tests)

-- the first place in a mapped list
place_mapped : {X : Type 0} (p : ℕ → Bool) (f : X → ℕ) (xs : List X) → position_or_len p (map f xs) ≡ position_or_len (λ x. p (f x)) xs
place_mapped p f [] = refl
place_mapped p f (x ∷ xs) = ap (λ k. cond (not (p (f x))) (1 + k) 0) (place_mapped p f xs)

pub position_mapped : {X : Type 0} (p : ℕ → Bool) (f : X → ℕ) (xs : List X) → position p (map f xs) ≡ position (λ x. p (f x)) xs
position_mapped p f xs = rw (place_mapped p f xs, length-map) refl

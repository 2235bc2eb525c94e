-- Searches for the first of some numbers.
use Rattle.std.proofs.Common.{◌≡◌, ℕ, ◌+◌, ◌-◌, ◌<◌, ◌≤◌, Bool, true, false, cond, zero, suc, nat_lt, refl, Option, Some, None, arith, inl, inr}
use Rattle.std.specs.List.{find, range_with_len}
use Rattle.std.proofs.lemmas.Bool.{cases_Bool}
use Rattle.std.proofs.lemmas.Bool.Decides.{nat_tests}

-- the first of the numbers that are left
pub find_next : (p : ℕ → Bool) (a n : ℕ) → a < n → find p (range_with_len a (n - a)) ≡ cond (p a) (Some a) (find p (range_with_len (a + 1) (n - (a + 1))))
find_next p a n low =
    let e : n - a ≡ suc (n - (a + 1)) = omega arith in
    rw e refl

pub find_last : (p : ℕ → Bool) (a n : ℕ) → n ≤ a → find p (range_with_len a (n - a)) ≡ None
find_last p a n high =
    let e : n - a ≡ 0 = omega arith in
    rw e refl

-- a search that finds nothing
not_first : (b : Bool) (a : ℕ) (rest : Option ℕ) → cond b (Some a) rest ≡ None → (b ≡ false) × (rest ≡ None)
not_first true a rest h = absurd cc
not_first false a rest h = (refl, h)

pub none_found : (p : ℕ → Bool) (a n : ℕ) → find p (range_with_len a n) ≡ None → (u : ℕ) → a ≤ u → u < a + n → p u ≡ false
none_found p a zero h u low high = absurd (omega arith)
none_found p a (suc n) h u low high =
    let both = not_first (p a) a (find p (range_with_len (a + 1) n)) h in
    elim (cases_Bool (nat_lt a u)) [
      | inl more ↦ let less : a < u = grind (arith, nat_tests) in none_found p (a + 1) n both.1 u (omega arith) (omega arith)
      | inr here ↦ let is : u ≡ a = grind (arith, nat_tests) in rw is both.0
    ]

-- where none fails, nothing is found
pub found_none : (p : ℕ → Bool) (a n : ℕ) → ((u : ℕ) → a ≤ u → u < a + n → p u ≡ false) → find p (range_with_len a n) ≡ None
found_none p a zero fails = refl
found_none p a (suc n) fails =
    rw (fails a (omega arith) (omega arith)) (found_none p (a + 1) n (λ u low high. fails u (omega arith) (omega (arith, high))))

-- Searches for the first of some numbers.
use Rattle.std.proofs.Common.{◌≡◌, ℕ, ◌+◌, ◌-◌, ◌<◌, ◌≤◌, Bool, true, false, cond, zero, suc, nat_lt, refl, Option, Some, None, option_map, arith, inl, inr}
use Rattle.std.specs.List.{find, range_with_len}
use Rattle.std.specs.Option.{option_or}
use Rattle.std.proofs.lemmas.Bool.{cases_Bool}
use Rattle.std.proofs.lemmas.Bool.Decides.{nat_tests}
use Rattle.link_net.specs.Simple.{first_place}

-- the first of the numbers that are left
pub find_next : (p : ℕ → Bool) (a n : ℕ) → a < n → find p (range_with_len a (n - a)) ≡ cond (p a) (Some a) (find p (range_with_len (a + 1) (n - (a + 1))))
find_next p a n low =
    let e : n - a ≡ suc (n - (a + 1)) = omega arith in
    rw e refl

pub find_last : (p : ℕ → Bool) (a n : ℕ) → n ≤ a → find p (range_with_len a (n - a)) ≡ None
find_last p a n high =
    let e : n - a ≡ 0 = omega arith in
    rw e refl

-- a search that finds nothing
not_first : (b : Bool) (a : ℕ) (rest : Option ℕ) → cond b (Some a) rest ≡ None → (b ≡ false) × (rest ≡ None)
not_first true a rest h = absurd cc
not_first false a rest h = (refl, h)

pub none_found : (p : ℕ → Bool) (a n : ℕ) → find p (range_with_len a n) ≡ None → (u : ℕ) → a ≤ u → u < a + n → p u ≡ false
none_found p a zero h u low high = absurd (omega arith)
none_found p a (suc n) h u low high =
    let both = not_first (p a) a (find p (range_with_len (a + 1) n)) h in
    elim (cases_Bool (nat_lt a u)) [
      | inl more ↦ let less : a < u = grind (arith, nat_tests) in none_found p (a + 1) n both.1 u (omega arith) (omega arith)
      | inr here ↦ let is : u ≡ a = grind (arith, nat_tests) in rw is both.0
    ]

-- neither of two
pub neither : {A : Type 0} (o p : Option A) → option_or o p ≡ None → (o ≡ None) × (p ≡ None)
neither None p h = (refl, h)
neither (Some x) p h = absurd cc

pub none_mapped : {A B : Type 0} (f : A → B) (o : Option A) → option_map f o ≡ None → o ≡ None
none_mapped f None h = refl
none_mapped f (Some x) h = absurd cc

-- the first of the nodes that are left with a slot, and that slot
pub place_next : (slot : ℕ → Option ℕ) (a n : ℕ) → a < n
    → first_place slot (range_with_len a (n - a)) ≡ option_or (option_map (λ j. (a, j)) (slot a)) (first_place slot (range_with_len (a + 1) (n - (a + 1))))
place_next slot a n low =
    let e : n - a ≡ suc (n - (a + 1)) = omega arith in
    rw e refl

pub place_last : (slot : ℕ → Option ℕ) (a n : ℕ) → n ≤ a → first_place slot (range_with_len a (n - a)) ≡ None
place_last slot a n high =
    let e : n - a ≡ 0 = omega arith in
    rw e refl

-- a search for a place that finds nothing
pub nowhere : (slot : ℕ → Option ℕ) (a n : ℕ) → first_place slot (range_with_len a n) ≡ None → (u : ℕ) → a ≤ u → u < a + n → slot u ≡ None
nowhere slot a zero h u low high = absurd (omega arith)
nowhere slot a (suc n) h u low high =
    let both = neither (option_map (λ j. (a, j)) (slot a)) (first_place slot (range_with_len (a + 1) n)) h in
    elim (cases_Bool (nat_lt a u)) [
      | inl more ↦ let less : a < u = grind (arith, nat_tests) in nowhere slot (a + 1) n both.1 u (omega arith) (omega arith)
      | inr here ↦ let is : u ≡ a = grind (arith, nat_tests) in rw is (none_mapped (λ j. (a, j)) (slot a) both.0)
    ]

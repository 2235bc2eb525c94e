-- Numbers that rise.
use Rattle.std.proofs.Common.{◌≡◌, ◌∙◌, ℕ, ◌+◌, ◌<◌, ◌≤◌, ◌==◌, Bool, true, false, List, [], ◌∷◌, ◌++◌, zero, suc, refl, arith, inl, inr}
use Rattle.std.proofs.lemmas.Bool.{cases_Bool}
use Rattle.std.proofs.lemmas.Bool.Decides.{nat_tests}
use Rattle.std.specs.List.{list_any, AllByRecursion, filter, range_with_len}
use Rattle.net_shapes.specs.Frames.{Rises}

abbrev pub AllBetween : ℕ → ℕ → List ℕ → Type 0
AllBetween a b ys = AllByRecursion (λ y. (a ≤ y) × (y < b)) ys

above_between : (a y b : ℕ) (ys : List ℕ) → a ≤ y → AllByRecursion (λ z. y < z) ys → AllBetween a b ys → AllBetween (a + 1) b ys
above_between a y b [] low above within = tt
above_between a y b (z ∷ zs) low above within = ((omega (arith, above.0), within.0.1), above_between a y b zs low above.1 within.1)

above_trans : (x y : ℕ) (ys : List ℕ) → x < y → AllByRecursion (λ z. y < z) ys → AllByRecursion (λ z. x < z) ys
above_trans x y [] low above = tt
above_trans x y (z ∷ zs) low above = (omega (arith, above.0), above_trans x y zs low above.1)

absent : (q : ℕ) (ys : List ℕ) → AllByRecursion (λ z. q < z) ys → list_any (λ z. q == z) ys ≡ false
absent q [] above = refl
absent q (z ∷ zs) above =
    let here : (q == z) ≡ false = grind (arith, nat_tests, above.0) in
    rw here (absent q zs above.1)

shifted : (a n : ℕ) → a + suc n ≡ (a + 1) + n
shifted a n = omega arith

joined : (a y : ℕ) (xs ys : List ℕ) → a ≡ y → xs ≡ ys → y ∷ xs ≡ a ∷ ys
joined a y xs ys p q = cc

-- numbers that rise are those of the range that are among them
pub rising-filter : (n a : ℕ) (ys : List ℕ) (p : ℕ → Bool) → Rises ys → AllBetween a (a + n) ys
    → ((q : ℕ) → a ≤ q → q < a + n → p q ≡ list_any (λ z. q == z) ys) → ys ≡ filter p (range_with_len a n)
rising-filter zero a [] p up within among = refl
rising-filter zero a (y ∷ ys) p up within among = absurd (omega (arith, within.0.0, within.0.1))
rising-filter (suc n) a [] p up within among =
    let out : p a ≡ false = among a (omega arith) (omega arith) in
    rw out (rising-filter n (a + 1) [] p tt tt (λ q h k. among q (omega arith) (omega arith)))
rising-filter (suc n) a (y ∷ ys) p up within among =
    elim (cases_Bool (a == y)) [
      | inl same ↦
          let is : a ≡ y = grind (arith, nat_tests) in
          let head : p a ≡ true = among a (omega arith) (omega arith) ∙ rw same refl in
          let rest = rw (shifted a n) at (above_between a y (a + suc n) ys (omega arith) up.0 within.1) in
          let later : (q : ℕ) → a + 1 ≤ q → q < (a + 1) + n → p q ≡ list_any (λ z. q == z) ys =
          λ q h k. among q (omega arith) (omega arith) ∙ (let apart : (q == y) ≡ false = grind (arith, nat_tests) in rw apart refl) in
          rw head (joined a y ys (filter p (range_with_len (a + 1) n)) is (rising-filter n (a + 1) ys p up.1 rest later))
      | inr other ↦
          let low : a < y = grind (arith, nat_tests, within.0.0) in
          let out : p a ≡ false = among a (omega arith) (omega arith) ∙ absent a (y ∷ ys) (low, above_trans a y ys low up.0) in
          let rest = rw (shifted a n) at (above_between a y (a + suc n) ys (omega arith) up.0 within.1) in
          rw out (rising-filter n (a + 1) (y ∷ ys) p up ((omega arith, omega (arith, within.0.1)), rest) (λ q h k. among q (omega arith) (omega arith)))
    ]

-- what holds of each of two lists
pub all-append : (P : ℕ → Type 0) (xs ys : List ℕ) → AllByRecursion P xs → AllByRecursion P ys → AllByRecursion P (xs ++ ys)
all-append P [] ys a b = b
all-append P (x ∷ xs) ys a b = (a.0, all-append P xs ys a.1 b)

-- lists that rise one after the other
pub rises-append : (xs ys : List ℕ) → Rises xs → Rises ys → AllByRecursion (λ x. AllByRecursion (λ y. x < y) ys) xs → Rises (xs ++ ys)
rises-append [] ys a b between = b
rises-append (x ∷ xs) ys a b between = (all-append (λ y. x < y) xs ys a.0 between.0, rises-append xs ys a.1 b between.1)

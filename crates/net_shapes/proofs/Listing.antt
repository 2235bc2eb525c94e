-- Lists of numbers that rise, as the nodes that are joined with one.
use Rattle.std.proofs.Common.{◌≡◌, ◌∙◌, ℕ, ◌+◌, ◌<◌, ◌≤◌, ◌==◌, Bool, true, false, ◌||◌, List, [], ◌∷◌, ◌++◌, zero, suc, refl, sym, ap, arith, if◌then◌else◌}
use Rattle.std.specs.List.{list_any, AllByRecursion, filter, range_with_len}
use Rattle.link_net.specs.Neighbours.{numbers_below}
use Rattle.net_shapes.specs.Frames.{Rises}
use Rattle.net_shapes.proofs.Ahead.{has}
use Rattle.net_shapes.proofs.Rising.{AllBetween, all-append, rises-append, rising-filter}

has_is : (w : ℕ) (xs : List ℕ) → list_any (λ z. w == z) xs ≡ has w xs
has_is w [] = refl
has_is w (x ∷ xs) = ap (λ (b : Bool). w == x || b) (has_is w xs)

above_range : (x a k : ℕ) → x < a → AllByRecursion (λ y. x < y) (range_with_len a k)
above_range x a zero low = tt
above_range x a (suc k) low = (low, above_range x (a + 1) k (omega arith))

-- numbers in a row rise, and lie where they lie
pub range_rises : (a k : ℕ) → Rises (range_with_len a k)
range_rises a zero = tt
range_rises a (suc k) = (above_range a (a + 1) k (omega arith), range_rises (a + 1) k)

pub range_between : (m n a k : ℕ) → m ≤ a → a + k ≤ n → AllBetween m n (range_with_len a k)
range_between m n a zero low high = tt
range_between m n a (suc k) low high = ((low, omega arith), range_between m n (a + 1) k (omega arith) (omega arith))

each_above : (m n x : ℕ) (ys : List ℕ) → x < m → AllBetween m n ys → AllByRecursion (λ y. x < y) ys
each_above m n x [] low within = tt
each_above m n x (y ∷ ys) low within = (omega (arith, within.0.0), each_above m n x ys low within.1)

all_above : (m n : ℕ) (xs ys : List ℕ) → AllBetween 0 m xs → AllBetween m n ys → AllByRecursion (λ x. AllByRecursion (λ y. x < y) ys) xs
all_above m n [] ys first second = tt
all_above m n (x ∷ xs) ys first second = (each_above m n x ys first.0.1 second, all_above m n xs ys first.1 second)

-- what lies below a number, and after it what does not
pub behind_rises : (m n : ℕ) (xs ys : List ℕ) → Rises xs → AllBetween 0 m xs → Rises ys → AllBetween m n ys → Rises (xs ++ ys)
behind_rises m n xs ys up first high second = rises-append xs ys up high (all_above m n xs ys first second)

widen : (a b m n : ℕ) (xs : List ℕ) → m ≤ a → b ≤ n → AllBetween a b xs → AllBetween m n xs
widen a b m n [] low high within = tt
widen a b m n (x ∷ xs) low high within = ((omega (arith, within.0.0), omega (arith, within.0.1)), widen a b m n xs low high within.1)

pub behind_between : (m n : ℕ) (xs ys : List ℕ) → m ≤ n → AllBetween 0 m xs → AllBetween m n ys → AllBetween 0 n (xs ++ ys)
behind_between m n xs ys low first second =
    all-append (λ y. (0 ≤ y) × (y < n)) xs ys (widen 0 m 0 n xs (omega arith) low first) (widen m n 0 n ys (omega arith) (omega arith) second)

-- a list that rises and has the nodes that pass is what a filter keeps of them
pub row_is : (n : ℕ) (ys : List ℕ) (p : ℕ → Bool) → Rises ys → AllBetween 0 (0 + n) ys → ((q : ℕ) → q < n → has q ys ≡ p q) → ys ≡ filter p (numbers_below n)
row_is n ys p up within same = rising-filter n 0 ys p up within (λ q from high. sym (same q (omega arith)) ∙ sym (has_is q ys))

-- the first of two lists, and the second
pub first_of : (c : Bool) (xs ys : List ℕ) → c ≡ true → (if c then xs else ys) ≡ xs
first_of true xs ys h = refl
first_of false xs ys h = cc

pub second_of : (c : Bool) (xs ys : List ℕ) → c ≡ false → (if c then xs else ys) ≡ ys
second_of true xs ys h = cc
second_of false xs ys h = refl

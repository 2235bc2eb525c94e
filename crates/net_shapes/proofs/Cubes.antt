-- Hypercubes.
use Rattle.std.proofs.Common.{◌≡◌, ℕ, ◌+◌, ◌-◌, ◌*◌, ◌/◌, ◌%◌, ◌^◌, ◌<◌, ◌≤◌, ◌==◌, Bool, true, false, ◌||◌, ◌&&◌, nat_lt, List, [], ◌∷◌, ◌++◌, map, length, length-append, append_assoc, refl, ap, sym, ◌∙◌, inl, inr, arith, zero, suc, if◌then◌else◌}
use Rattle.std.specs.List.{list_any, range_with_len}
use Rattle.std.proofs.Math.Nat.{mul-le-mul_right, pow-le-pow_right, pow-suc}
use Rattle.std.proofs.lemmas.Bool.{cases_Bool}
use Rattle.std.proofs.lemmas.Bool.Decides.{nat_tests}
use Rattle.std.proofs.lemmas.List.{length-map}
use Rattle.std.proofs.lemmas.List.FromFn.{length-range_with_len}
use Rattle.std.proofs.lemmas.Nat.{div-mul-add, div-add-mod', mod_below, pow_pos, pow_below, pow-add}
use Rattle.link_net.specs.Neighbours.{numbers_below}
use Rattle.net_shapes.specs.declared.shape.Shape.{Shape}
use Rattle.net_shapes.specs.Shapes.{digit}
use Rattle.net_shapes.specs.Sizes.{has_size}
use Rattle.net_shapes.specs.Ahead.{link_to, links_ahead, when, raised}
use Rattle.net_shapes.proofs.Ahead.{has, has_twice, range_more}
use Rattle.net_shapes.proofs.Lists.{has-append, has_when}
use Rattle.net_shapes.proofs.Sound.{IsSound}

-- the links of one more digit
pub raised-append : (u : ℕ) (bs cs : List ℕ) → raised u (bs ++ cs) ≡ raised u bs ++ raised u cs
raised-append u [] cs = refl
raised-append u (b ∷ bs) cs =
    ap (λ t. when (digit u b == 0) (u + 2 ^ b) ++ t) (raised-append u bs cs) ∙ sym (append_assoc (when (digit u b == 0) (u + 2 ^ b)) (raised u bs) (raised u cs))

map-append : (u : ℕ) (xs ys : List ℕ) → map (link_to u) (xs ++ ys) ≡ map (link_to u) xs ++ map (link_to u) ys
map-append u [] ys = refl
map-append u (x ∷ xs) ys = ap (λ t. link_to u x ∷ t) (map-append u xs ys)

all_of : (xs : List ℕ) → xs ++ [] ≡ xs
all_of [] = refl
all_of (x ∷ xs) = ap (λ t. x ∷ t) (all_of xs)

pub raised_more : (u k : ℕ) → map (link_to u) (raised u (range_with_len 0 (k + 1))) ≡ map (link_to u) (raised u (range_with_len 0 k)) ++ map (link_to u) (when (digit u k == 0) (u + 2 ^ k))
raised_more u k =
    let on : k + 1 ≡ suc k = omega arith in
    let from_zero : 0 + k ≡ k = omega arith in
    let more = rw from_zero at (range_more 0 k) in
    ap (λ m. map (link_to u) (raised u (range_with_len 0 m))) on ∙ ap (λ bs. map (link_to u) (raised u bs)) more
    ∙ ap (map (link_to u)) (raised-append u (range_with_len 0 k) (k ∷ []) ∙ ap (λ t. raised u (range_with_len 0 k) ++ t) (all_of (when (digit u k == 0) (u + 2 ^ k))))
    ∙ map-append u (raised u (range_with_len 0 k)) (when (digit u k == 0) (u + 2 ^ k))

-- a digit that is 0 becomes 1
abbrev pub rises : ℕ → ℕ → ℕ → Bool
rises u w b = digit u b == 0 && u + 2 ^ b == w

pub has_raised : (u w : ℕ) (bs : List ℕ) → has w (raised u bs) ≡ list_any (rises u w) bs
has_raised u w [] = refl
has_raised u w (b ∷ bs) =
    rw (has-append w (when (digit u b == 0) (u + 2 ^ b)) (raised u bs), has_when (digit u b == 0) (u + 2 ^ b) w, has_raised u w bs)
    (turned (digit u b == 0) w (u + 2 ^ b) (list_any (rises u w) bs)) where
      turned : (c : Bool) (w x : ℕ) (s : Bool) → ((c && w == x) || s) ≡ ((c && x == w) || s)
      turned c w x s = grind (arith, nat_tests)

-- powers of two around a place
module _ (d b : ℕ) (low : b < d) where
  halves : 2 ^ d ≡ 2 ^ (d - (b + 1)) * (2 ^ b + 2 ^ b)
  halves =
      let split : d ≡ (d - (b + 1)) + suc b = omega arith in
      ap (λ k. 2 ^ k) split ∙ pow-add 2 (d - (b + 1)) (suc b) ∙ ap (λ k. 2 ^ (d - (b + 1)) * k) (pow-suc 2 b ∙ twice (2 ^ b)) where
        twice : (p : ℕ) → p * 2 ≡ p + p
        twice p = omega arith

-- a number below j doubled blocks of p whose block is even
even_below : (u p j : ℕ) → 1 ≤ p → u < j * (p + p) → (u / p) % 2 ≡ 0 → u + p < j * (p + p)
even_below u p j some low even =
    let whole = div-add-mod' u p in
    let left = mod_below u p (omega arith) in
    let half = div-add-mod' (u / p) 2 in
    at (u / p) ((u / p) / 2) (u % p) (omega arith) whole left where
      at : (q m r : ℕ) → q ≡ m + m → q * p + r ≡ u → r < p → u + p < j * (p + p)
      at q m r twice whole left =
          let is : (m + m) * p + r ≡ u = rw twice at whole in
          elim (cases_Bool (nat_lt m j)) [
            | inl below ↦
                let lower : m + 1 ≤ j = grind (arith, nat_tests) in
                omega (arith, mul-le-mul_right (p + p) lower)
            | inr above ↦
                let upper : j ≤ m = grind (arith, nat_tests) in
                absurd (omega (arith, mul-le-mul_right (p + p) upper))
          ]

module _ (d : ℕ) where
  pub raise_below : (u b : ℕ) → u < 2 ^ d → b < d → digit u b ≡ 0 → u + 2 ^ b < 2 ^ d
  raise_below u b low within even =
      rw (halves d b within) (even_below u (2 ^ b) (2 ^ (d - (b + 1))) (pow_pos b) (rw (halves d b within) at low) even)

  -- where a digit rises the number stays below
  rises_below : (u w i k : ℕ) → u < 2 ^ d → i + k ≤ d → list_any (rises u w) (range_with_len i k) ≡ true → w < 2 ^ d
  rises_below u w i zero low le h = cc
  rises_below u w i (suc k) low le h =
      elim (cases_Bool (rises u w i)) [
        | inl here ↦
            let even : digit u i ≡ 0 = grind (arith, nat_tests) in
            let is : u + 2 ^ i ≡ w = grind (arith, nat_tests) in
            rw (← is) (raise_below u i low (omega arith) even)
        | inr other ↦ rises_below u w (i + 1) k low (omega arith) (rw other at h)
      ]

  -- lower numbers are not among those of later digits
  none_low : (u x i k : ℕ) → x < u + 2 ^ i → has x (raised u (range_with_len i k)) ≡ false
  none_low u x i zero low = refl
  none_low u x i (suc k) low =
      let on : 2 ^ i < 2 ^ (i + 1) = pow_below i (i + 1) (omega arith) in
      rw (has-append x (when (digit u i == 0) (u + 2 ^ i)) (raised u (range_with_len (i + 1) k)), has_when (digit u i == 0) (u + 2 ^ i) x, none_low u x (i + 1) k (omega arith))
      (apart (digit u i == 0) (2 ^ i) low) where
        apart : (c : Bool) (p : ℕ) → x < u + p → ((c && x == u + p) || false) ≡ false
        apart c p low = grind (arith, nat_tests)

  once_raised : (u i k : ℕ) → has_twice (raised u (range_with_len i k)) ≡ false
  once_raised u i zero = refl
  once_raised u i (suc k) =
      let on : 2 ^ i < 2 ^ (i + 1) = pow_below i (i + 1) (omega arith) in
      at (digit u i == 0) (u + 2 ^ i) (raised u (range_with_len (i + 1) k)) (none_low u (u + 2 ^ i) (i + 1) k (omega arith)) (once_raised u (i + 1) k) where
        at : (c : Bool) (x : ℕ) (rest : List ℕ) → has x rest ≡ false → has_twice rest ≡ false → has_twice (when c x ++ rest) ≡ false
        at true x rest none once = rw (none, once) refl
        at false x rest none once = once

  rises_up : (u w : ℕ) (bs : List ℕ) → list_any (rises u w) bs ≡ true → u < w
  rises_up u w [] h = cc
  rises_up u w (b ∷ bs) h =
      elim (cases_Bool (rises u w b)) [
        | inl here ↦
            let some = pow_pos b in
            let is : u + 2 ^ b ≡ w = grind (arith, nat_tests) in
            omega arith
        | inr other ↦ rises_up u w bs (rw other at h)
      ]

  cube_one_way : (u w : ℕ) → list_any (rises u w) (numbers_below d) ≡ true → list_any (rises w u) (numbers_below d) ≡ false
  cube_one_way u w led =
      elim (cases_Bool (list_any (rises w u) (numbers_below d))) [
        | inl back ↦ absurd (omega (arith, rises_up u w (numbers_below d) led, rises_up w u (numbers_below d) back))
        | inr none ↦ none
      ]

  cube_member : (u w : ℕ) → u < 2 ^ d → has w (raised u (numbers_below d)) ≡ (nat_lt w (2 ^ d) && list_any (rises u w) (numbers_below d))
  cube_member u w low =
      elim (cases_Bool (list_any (rises u w) (numbers_below d))) [
        | inl led ↦
            let below = rises_below u w 0 d low (omega arith) led in
            rw (has_raised u w (numbers_below d), led) (at (2 ^ d) below)
        | inr none ↦ rw (has_raised u w (numbers_below d), none) (nothing (nat_lt w (2 ^ d)))
      ] where
        at : (n : ℕ) → w < n → true ≡ (nat_lt w n && true)
        at n low = grind (arith, nat_tests)

        nothing : (c : Bool) → false ≡ (c && false)
        nothing true = refl
        nothing false = refl

  -- the numbers that differ from u by one of these powers
  around : ℕ → List ℕ → List ℕ
  around u [] = []
  around u (b ∷ bs) = (u + 2 ^ b) ∷ (u - 2 ^ b) ∷ around u bs

  around_few : (u : ℕ) (bs : List ℕ) → length (around u bs) ≡ 2 * length bs
  unfolding around
  around_few u [] = omega arith
  around_few u (b ∷ bs) = omega (arith, around_few u bs)

  around_has : (u w : ℕ) (bs : List ℕ) → (list_any (rises u w) bs || list_any (rises w u) bs) ≡ true → has w (around u bs) ≡ true
  unfolding around
  around_has u w [] h = cc
  around_has u w (b ∷ bs) h =
      at (digit u b == 0) (digit w b == 0) (2 ^ b) (list_any (rises u w) bs) (list_any (rises w u) bs) (has w (around u bs)) (around_has u w bs) h where
        at : (c e : Bool) (p : ℕ) (s t r : Bool) → ((s || t) ≡ true → r ≡ true)
            → (((c && u + p == w) || s) || ((e && w + p == u) || t)) ≡ true → ((w == u + p) || ((w == u - p) || r)) ≡ true
        at c e p s t r next h = grind (arith, nat_tests)

-- how many of k numbers from a on have digit 0 at place b
zeros : ℕ → ℕ → ℕ → ℕ
zeros b a zero = 0
zeros b a (suc k) = (if digit a b == 0 then 1 else 0) + zeros b (a + 1) k

zeros-split : (b a j k : ℕ) → zeros b a (j + k) ≡ zeros b a j + zeros b (a + j) k
unfolding zeros
zeros-split b a zero k =
    let first : 0 + k ≡ k = omega arith in
    let start : a + 0 ≡ a = omega arith in
    rw (first, start) (omega arith)
zeros-split b a (suc j) k =
    let on : suc j + k ≡ suc (j + k) = omega arith in
    let start : a + suc j ≡ (a + 1) + j = omega arith in
    rw (on, start) (omega (arith, zeros-split b (a + 1) j k))

-- in a block of 2 ^ b numbers all have the same digit at place b
block : (b q : ℕ) (c : Bool) → (q % 2 == 0) ≡ c → (i k : ℕ) → i + k ≤ 2 ^ b → zeros b (q * 2 ^ b + i) k ≡ (if c then k else 0)
unfolding zeros
block b q true even i zero le = refl
block b q false odd i zero le = refl
block b q true even i (suc k) le =
    let start : (q * 2 ^ b + i) + 1 ≡ q * 2 ^ b + (i + 1) = omega arith in
    rw (div-mul-add q (2 ^ b) i (omega arith), even, start, block b q true even (i + 1) k (omega arith)) (omega arith)
block b q false odd i (suc k) le =
    let start : (q * 2 ^ b + i) + 1 ≡ q * 2 ^ b + (i + 1) = omega arith in
    rw (div-mul-add q (2 ^ b) i (omega arith), odd, start, block b q false odd (i + 1) k (omega arith)) refl

-- of two blocks the first one has the digit 0
two_blocks : (b m : ℕ) → zeros b (m * (2 ^ b + 2 ^ b)) (2 ^ b + 2 ^ b) ≡ 2 ^ b
two_blocks b m =
    let even : ((m + m) % 2 == 0) ≡ true = grind (arith, nat_tests) in
    let odd : ((m + m + 1) % 2 == 0) ≡ false = grind (arith, nat_tests) in
    let first = block b (m + m) true even 0 (2 ^ b) (omega arith) in
    let second = block b (m + m + 1) false odd 0 (2 ^ b) (omega arith) in
    let start : m * (2 ^ b + 2 ^ b) ≡ (m + m) * 2 ^ b + 0 = omega arith in
    let middle : ((m + m) * 2 ^ b + 0) + 2 ^ b ≡ (m + m + 1) * 2 ^ b + 0 = omega arith in
    rw start (zeros-split b ((m + m) * 2 ^ b + 0) (2 ^ b) (2 ^ b) ∙ rw (middle, first, second) (omega arith))

blocks : (b m j : ℕ) → zeros b (m * (2 ^ b + 2 ^ b)) (j * (2 ^ b + 2 ^ b)) ≡ j * 2 ^ b
unfolding zeros
blocks b m zero = let none : 0 * (2 ^ b + 2 ^ b) ≡ 0 = omega arith in rw none (omega arith)
blocks b m (suc j) =
    let on : suc j * (2 ^ b + 2 ^ b) ≡ (2 ^ b + 2 ^ b) + j * (2 ^ b + 2 ^ b) = omega arith in
    let start : m * (2 ^ b + 2 ^ b) + (2 ^ b + 2 ^ b) ≡ (m + 1) * (2 ^ b + 2 ^ b) = omega arith in
    rw on (zeros-split b (m * (2 ^ b + 2 ^ b)) (2 ^ b + 2 ^ b) (j * (2 ^ b + 2 ^ b)) ∙ rw (start, two_blocks b m, blocks b (m + 1) j) (omega arith))

-- half of all numbers have the digit 0
half : (d b : ℕ) → b < d → zeros b 0 (2 ^ d) + zeros b 0 (2 ^ d) ≡ 2 ^ d
half d b low =
    let all = blocks b 0 (2 ^ (d - (b + 1))) in
    let none : 0 * (2 ^ b + 2 ^ b) ≡ 0 = omega arith in
    rw (halves d b low, rw none at all) (twice (2 ^ (d - (b + 1))) (2 ^ b)) where
      twice : (j p : ℕ) → j * p + j * p ≡ j * (p + p)
      twice j p = omega arith

-- how many links lead from k numbers by the digits of one more place
one_place : (b : ℕ) (bs : List ℕ) (a k : ℕ)
    → length (links_ahead (λ u. raised u (b ∷ bs)) (range_with_len a k)) ≡ zeros b a k + length (links_ahead (λ u. raised u bs) (range_with_len a k))
unfolding zeros
one_place b bs a zero = refl
one_place b bs a (suc k) =
    let rest = one_place b bs (a + 1) k in
    let all = length-append (map (link_to a) (raised a (b ∷ bs))) (links_ahead (λ u. raised u (b ∷ bs)) (range_with_len (a + 1) k)) in
    let fewer = length-append (map (link_to a) (raised a bs)) (links_ahead (λ u. raised u bs) (range_with_len (a + 1) k)) in
    let all_here = length-map (raised a (b ∷ bs)) (link_to a) in
    let fewer_here = length-map (raised a bs) (link_to a) in
    let first = length-append (when (digit a b == 0) (a + 2 ^ b)) (raised a bs) in
    let one = counted (digit a b == 0) (a + 2 ^ b) in
    omega arith where
      counted : (c : Bool) (x : ℕ) → length (when c x) ≡ (if c then 1 else 0)
      counted true x = refl
      counted false x = refl

none_ahead : (a k : ℕ) → length (links_ahead (λ u. raised u []) (range_with_len a k)) ≡ 0
none_ahead a zero = refl
none_ahead a (suc k) = none_ahead (a + 1) k

cube_links : (d i k : ℕ) → i + k ≤ d → 2 * length (links_ahead (λ u. raised u (range_with_len i k)) (range_with_len 0 (2 ^ d))) ≡ k * 2 ^ d
cube_links d i zero le = omega (arith, none_ahead 0 (2 ^ d))
cube_links d i (suc k) le =
    let here = half d i (omega arith) in
    let rest = cube_links d (i + 1) k (omega arith) in
    let both = one_place i (range_with_len (i + 1) k) 0 (2 ^ d) in
    omega arith

pub cube_sound : (d : ℕ) → has_size (Shape.Hypercube d) ≡ true → IsSound (Shape.Hypercube d)
cube_sound d f =
    let small : d ≤ 16 = grind (arith, nat_tests, f) in
    let some = pow_pos d in
    let high : 2 ^ d ≤ 2 ^ 16 = pow-le-pow_right (omega arith) small in
    let total = cube_links d 0 d (omega arith) in
    record {
      some = some;
      small = high;
      is_ahead = record { member = cube_member d; once = λ u low. once_raised d u 0 d; one_way = λ u w a b led. cube_one_way d u w led };
      has_few = λ bound. record {
        near = λ u. around d u (numbers_below d);
        few = λ u low. omega (arith, around_few d u (numbers_below d), length-range_with_len 0 d);
        holds = λ u w a b joined. around_has d u w (numbers_below d) joined;
      };
      count = omega arith;
    }

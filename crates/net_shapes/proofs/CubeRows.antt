-- The neighbours of a node of a hypercube, by rising number.
use Rattle.std.proofs.Common.{◌≡◌, ◌∙◌, ℕ, ◌+◌, ◌-◌, ◌*◌, ◌/◌, ◌%◌, ◌^◌, ◌<◌, ◌≤◌, ◌==◌, Bool, true, false, ◌&&◌, ◌||◌, nat_lt, List, [], ◌∷◌, ◌++◌, zero, suc, refl, sym, ap, append_assoc, arith, inl, inr}
use Rattle.std.specs.List.{list_any, AllByRecursion, range_with_len}
use Rattle.std.proofs.Math.Nat.{add-mul-div_right}
use Rattle.std.proofs.lemmas.Bool.{cases_Bool}
use Rattle.std.proofs.lemmas.Bool.Decides.{nat_tests}
use Rattle.std.proofs.lemmas.Nat.{div_below, pow_below, pow_pos}
use Rattle.link_net.specs.Neighbours.{numbers_below}
use Rattle.net_shapes.specs.declared.shape.Shape.{Shape}
use Rattle.net_shapes.specs.Ahead.{raised, when}
use Rattle.net_shapes.specs.Frames.{Rises}
use Rattle.net_shapes.specs.LargeShapes.{shape_neighbours}
use Rattle.net_shapes.specs.Listed.{listed, lowered}
use Rattle.net_shapes.specs.Shapes.{digit, shape_joins}
use Rattle.net_shapes.proofs.Ahead.{has, range_more}
use Rattle.net_shapes.proofs.Cubes.{has_raised, raise_below, raised-append, rises}
use Rattle.net_shapes.proofs.Listing.{behind_between, behind_rises, row_is}
use Rattle.net_shapes.proofs.Lists.{has-append, has_when}
use Rattle.net_shapes.proofs.Rising.{AllBetween, all-append, rises-append}

each_one : (y : ℕ) (xs : List ℕ) → AllByRecursion (λ x. x < y) xs → AllByRecursion (λ x. AllByRecursion (λ z. x < z) (y ∷ [])) xs
each_one y [] low = tt
each_one y (x ∷ xs) low = ((low.0, tt), each_one y xs low.1)

each_none : (xs : List ℕ) → AllByRecursion (λ x. AllByRecursion (λ z. x < z) []) xs
each_none [] = tt
each_none (x ∷ xs) = (tt, each_none xs)

-- a digit 1 is part of its number
one_within : (u b : ℕ) → (digit u b == 1) ≡ true → 2 ^ b ≤ u
one_within u b one =
    elim (cases_Bool (nat_lt u (2 ^ b))) [
      | inl less ↦
          let low : u < 1 * 2 ^ b = below (2 ^ b) less in
          absurd (none (u / 2 ^ b) (div_below u (2 ^ b) 1 (pow_pos b) low) one)
      | inr more ↦ above (2 ^ b) more
    ] where
      below : (p : ℕ) → nat_lt u p ≡ true → u < 1 * p
      below p h = let low : u < p = grind (arith, nat_tests) in omega arith

      above : (p : ℕ) → nat_lt u p ≡ false → p ≤ u
      above p h = grind (arith, nat_tests)

      none : (q : ℕ) → q < 1 → (q % 2 == 1) ≡ true → ⊥
      none zero low h = cc
      none (suc q) low h = absurd (omega arith)

module _ (u : ℕ) where
  -- a number without a digit 1 lies below one without a lower digit 1
  one_under : (j b : ℕ) → j < b → AllByRecursion (λ x. x < u - 2 ^ j) (when (digit u b == 1) (u - 2 ^ b))
  one_under j b low =
      elim (cases_Bool (digit u b == 1)) [
        | inl one ↦ rw one (omega (arith, one_within u b one, pow_below j b low), tt)
        | inr none ↦ rw none tt
      ]

  lowered_under : (j i k : ℕ) → j < i → AllByRecursion (λ x. x < u - 2 ^ j) (lowered u (range_with_len i k))
  lowered_under j i zero low = tt
  lowered_under j i (suc k) low =
      all-append (λ x. x < u - 2 ^ j) (lowered u (range_with_len (i + 1) k)) (when (digit u i == 1) (u - 2 ^ i)) (lowered_under j (i + 1) k (omega arith)) (one_under j i low)

  lowered_rises : (i k : ℕ) → Rises (lowered u (range_with_len i k))
  lowered_rises i zero = tt
  lowered_rises i (suc k) =
      let rest = lowered u (range_with_len (i + 1) k) in
      elim (cases_Bool (digit u i == 1)) [
        | inl one ↦ rw one (rises-append rest ((u - 2 ^ i) ∷ []) (lowered_rises (i + 1) k) (tt, tt) (each_one (u - 2 ^ i) rest (lowered_under i (i + 1) k (omega arith))))
        | inr none ↦ rw none (rises-append rest [] (lowered_rises (i + 1) k) tt (each_none rest))
      ]

  one_between : (b : ℕ) → AllBetween 0 u (when (digit u b == 1) (u - 2 ^ b))
  one_between b =
      elim (cases_Bool (digit u b == 1)) [
        | inl one ↦ rw one ((omega arith, omega (arith, one_within u b one, pow_pos b)), tt)
        | inr none ↦ rw none tt
      ]

  lowered_between : (i k : ℕ) → AllBetween 0 u (lowered u (range_with_len i k))
  lowered_between i zero = tt
  lowered_between i (suc k) =
      all-append (λ x. (0 ≤ x) × (x < u)) (lowered u (range_with_len (i + 1) k)) (when (digit u i == 1) (u - 2 ^ i)) (lowered_between (i + 1) k) (one_between i)

  raised_one : (x b : ℕ) → x < u + 2 ^ b → AllByRecursion (λ y. x < y) (when (digit u b == 0) (u + 2 ^ b))
  raised_one x b low =
      elim (cases_Bool (digit u b == 0)) [
        | inl none ↦ rw none (low, tt)
        | inr one ↦ rw one tt
      ]

  raised_above : (x i k : ℕ) → x < u + 2 ^ i → AllByRecursion (λ y. x < y) (raised u (range_with_len i k))
  raised_above x i zero low = tt
  raised_above x i (suc k) low =
      let on : 2 ^ i < 2 ^ (i + 1) = pow_below i (i + 1) (omega arith) in
      all-append (λ y. x < y) (when (digit u i == 0) (u + 2 ^ i)) (raised u (range_with_len (i + 1) k)) (raised_one x i low) (raised_above x (i + 1) k (omega (arith, on)))

  raised_rises : (i k : ℕ) → Rises (raised u (range_with_len i k))
  raised_rises i zero = tt
  raised_rises i (suc k) =
      let on : 2 ^ i < 2 ^ (i + 1) = pow_below i (i + 1) (omega arith) in
      elim (cases_Bool (digit u i == 0)) [
        | inl none ↦ rw none (raised_above (u + 2 ^ i) (i + 1) k (omega (arith, on)), raised_rises (i + 1) k)
        | inr one ↦ rw one (raised_rises (i + 1) k)
      ]

  module _ (d : ℕ) (low : u < 2 ^ d) where
    zero_between : (b : ℕ) → b < d → AllBetween u (0 + 2 ^ d) (when (digit u b == 0) (u + 2 ^ b))
    zero_between b within =
        elim (cases_Bool (digit u b == 0)) [
          | inl none ↦
              let even : digit u b ≡ 0 = named (digit u b) none in
              rw none ((omega arith, omega (arith, raise_below d u b low within even)), tt)
          | inr one ↦ rw one tt
        ] where
          named : (m : ℕ) → (m == 0) ≡ true → m ≡ 0
          named m h = grind (arith, nat_tests)

    raised_between : (i k : ℕ) → i + k ≤ d → AllBetween u (0 + 2 ^ d) (raised u (range_with_len i k))
    raised_between i zero le = tt
    raised_between i (suc k) le =
        all-append (λ y. (u ≤ y) × (y < 0 + 2 ^ d)) (when (digit u i == 0) (u + 2 ^ i)) (raised u (range_with_len (i + 1) k)) (zero_between i (omega arith)) (raised_between (i + 1) k (omega arith))

-- a digit 1 of one of two numbers is a digit 0 of the other, which is less by its power
lowers_is : (u b q : ℕ) → (digit u b == 1 && q == u - 2 ^ b) ≡ (digit q b == 0 && q + 2 ^ b == u)
lowers_is u b q =
    elim (cases_Bool (q + 2 ^ b == u)) [
      | inl sum ↦
          let is : q + 1 * 2 ^ b ≡ u = whole (2 ^ b) sum in
          let next : u / 2 ^ b ≡ q / 2 ^ b + 1 = sym (ap (λ (m : ℕ). m / 2 ^ b) is) ∙ add-mul-div_right q 1 (pow_pos b) in
          here (u / 2 ^ b) (q / 2 ^ b) (2 ^ b) next sum
      | inr other ↦
          elim (cases_Bool (digit u b == 1)) [
            | inl one ↦ rw one (apart (2 ^ b) (digit q b == 0) (one_within u b one) other)
            | inr none ↦ rw none (nothing (digit q b == 0) (q + 2 ^ b == u) other)
          ]
    ] where
      whole : (p : ℕ) → (q + p == u) ≡ true → q + 1 * p ≡ u
      whole p h = let is : q + p ≡ u = grind (arith, nat_tests) in omega arith

      here : (m n p : ℕ) → m ≡ n + 1 → (q + p == u) ≡ true → (m % 2 == 1 && q == u - p) ≡ (n % 2 == 0 && q + p == u)
      here m n p next sum =
          let parity : (m % 2 == 1) ≡ (n % 2 == 0) = grind (arith, nat_tests) in
          let less : (q == u - p) ≡ true = grind (arith, nat_tests) in
          rw (parity, less, sum) refl

      apart : (p : ℕ) (c : Bool) → p ≤ u → (q + p == u) ≡ false → (true && q == u - p) ≡ (c && q + p == u)
      apart p c within other = grind (arith, nat_tests)

      nothing : (c s : Bool) → s ≡ false → false ≡ (c && s)
      nothing c s none = grind (arith, nat_tests)

has_lowered : (u q : ℕ) (bs : List ℕ) → has q (lowered u bs) ≡ list_any (rises q u) bs
has_lowered u q [] = refl
has_lowered u q (b ∷ bs) =
    rw (has-append q (lowered u bs) (when (digit u b == 1) (u - 2 ^ b)), has_when (digit u b == 1) (u - 2 ^ b) q, lowers_is u b q, has_lowered u q bs)
    (turned (list_any (rises q u) bs) (digit q b == 0 && q + 2 ^ b == u)) where
      turned : (s t : Bool) → (s || t) ≡ (t || s)
      turned s t = grind arith

pub cube_row : (d u : ℕ) → u < 2 ^ d → listed (Shape.Hypercube d) u ≡ shape_neighbours (Shape.Hypercube d) u
cube_row d u low =
    let first = lowered u (numbers_below d) in
    let second = raised u (numbers_below d) in
    let below = lowered_between u 0 d in
    let above = raised_between u d low 0 d (omega arith) in
    row_is (2 ^ d) (first ++ second) (shape_joins (Shape.Hypercube d) u)
    (behind_rises u (0 + 2 ^ d) first second (lowered_rises u 0 d) below (raised_rises u 0 d) above)
    (behind_between u (0 + 2 ^ d) first second (omega arith) below above)
    (λ q high. rw (has-append q first second, has_lowered u q (numbers_below d), has_raised u q (numbers_below d)) (turned (list_any (rises q u) (numbers_below d)) (list_any (rises u q) (numbers_below d)))) where
      turned : (s t : Bool) → (s || t) ≡ (t || s)
      turned s t = grind arith

-- one digit more, which is the highest
lowered-append : (u : ℕ) (bs : List ℕ) (b : ℕ) → lowered u (bs ++ b ∷ []) ≡ when (digit u b == 1) (u - 2 ^ b) ++ lowered u bs
lowered-append u [] b = ends (when (digit u b == 1) (u - 2 ^ b)) where
  ends : (xs : List ℕ) → xs ≡ xs ++ []
  ends [] = refl
  ends (x ∷ xs) = ap (λ t. x ∷ t) (ends xs)
lowered-append u (a ∷ bs) b =
    ap (λ t. t ++ when (digit u a == 1) (u - 2 ^ a)) (lowered-append u bs b)
    ∙ append_assoc (when (digit u b == 1) (u - 2 ^ b)) (lowered u bs) (when (digit u a == 1) (u - 2 ^ a))

pub lowered_more : (u k : ℕ) → lowered u (range_with_len 0 (k + 1)) ≡ when (digit u k == 1) (u - 2 ^ k) ++ lowered u (range_with_len 0 k)
lowered_more u k =
    let on : k + 1 ≡ suc k = omega arith in
    let from_zero : 0 + k ≡ k = omega arith in
    let more = rw from_zero at (range_more 0 k) in
    ap (λ m. lowered u (range_with_len 0 m)) on ∙ ap (lowered u) more ∙ lowered-append u (range_with_len 0 k) k

pub raised_last : (u k : ℕ) → raised u (range_with_len 0 (k + 1)) ≡ raised u (range_with_len 0 k) ++ when (digit u k == 0) (u + 2 ^ k)
raised_last u k =
    let on : k + 1 ≡ suc k = omega arith in
    let from_zero : 0 + k ≡ k = omega arith in
    let more = rw from_zero at (range_more 0 k) in
    ap (λ m. raised u (range_with_len 0 m)) on ∙ ap (raised u) more ∙ raised-append u (range_with_len 0 k) (k ∷ [])
    ∙ ap (λ t. raised u (range_with_len 0 k) ++ t) (ends (when (digit u k == 0) (u + 2 ^ k))) where
      ends : (xs : List ℕ) → xs ++ [] ≡ xs
      ends [] = refl
      ends (x ∷ xs) = ap (λ t. x ∷ t) (ends xs)

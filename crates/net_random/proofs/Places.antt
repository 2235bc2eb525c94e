-- All pairs of nodes as places: each place is another pair.
use Rattle.std.proofs.Common.{◌≡◌, ◌≢◌, ℕ, ◌+◌, ◌-◌, ◌*◌, ◌/◌, ◌%◌, ◌<◌, ◌≤◌, ◌==◌, true, false, nat_lt, List, [], ◌∷◌, map, refl, sym, subst, ◌∙◌, inl, inr, arith, zero, suc}
use Rattle.std.specs.Prelude.{All, AllPairs}
use Rattle.std.specs.List.{list_any, AllByRecursion}
use Rattle.std.proofs.lemmas.Bool.{cases_Bool}
use Rattle.std.proofs.lemmas.Bool.Decides.{nat_tests}
use Rattle.std.proofs.Math.Nat.{div-add-mod, div-lt_iff_lt-mul, mod-lt}
use Rattle.link_net.specs.Links.{AllWithin, is_self_link, has_link_twice, joins}
use Rattle.rand.specs.Sample.{IsSampleOf}
use Rattle.net_text.specs.Listing.{Link}
use Rattle.net_random.specs.RandomNetworks.{pair_count, AreSimpleLinks}
use Rattle.net_random.specs.Pairs.{row_width, place_count, link_in_row, link_at}

module _ (n : ℕ) (some : 1 ≤ n) where
  -- the link leads from a node to a greater one
  rising : (i j : ℕ) → i < n / 2 → j < row_width n → ((link_in_row n i j).0 < (link_in_row n i j).1) × ((link_in_row n i j).1 < n)
  rising i j row column =
      elim (cases_Bool (nat_lt j (n - 1 - i))) [
        | inl first ↦ let low : j < n - 1 - i = grind (arith, nat_tests) in rw first (omega arith, omega arith)
        | inr second ↦ let high : n - 1 - i ≤ j = grind (arith, nat_tests) in rw second (omega arith, omega arith)
      ]

  -- two places of one link
  pub same_place : (i j k m : ℕ) → i < n / 2 → j < row_width n → k < n / 2 → m < row_width n → (link_in_row n i j).0 ≡ (link_in_row n k m).0 → (link_in_row n i j).1 ≡ (link_in_row n k m).1 → (i ≡ k) × (j ≡ m)
  same_place i j k m a b c d =
      elim (cases_Bool (nat_lt j (n - 1 - i))) [
        | inl first ↦
            let low : j < n - 1 - i = grind (arith, nat_tests) in
            elim (cases_Bool (nat_lt m (n - 1 - k))) [
              | inl here ↦ let below : m < n - 1 - k = grind (arith, nat_tests) in rw (first, here) (λ e f. (omega arith, omega arith))
              | inr there ↦ let past : n - 1 - k ≤ m = grind (arith, nat_tests) in rw (first, there) (λ e f. (omega arith, omega arith))
            ]
        | inr second ↦
            let high : n - 1 - i ≤ j = grind (arith, nat_tests) in
            elim (cases_Bool (nat_lt m (n - 1 - k))) [
              | inl here ↦ let below : m < n - 1 - k = grind (arith, nat_tests) in rw (second, here) (λ e f. (omega arith, omega arith))
              | inr there ↦ let past : n - 1 - k ≤ m = grind (arith, nat_tests) in rw (second, there) (λ e f. (omega arith, omega arith))
            ]
      ]

  -- the row and the column of a place
  pub wide : zero < row_width n
  wide = omega arith

  pub row_of : (x : ℕ) → x < place_count n → x / row_width n < n / 2
  row_of x low = (div-lt_iff_lt-mul wide).1 low

  pub column_of : (x : ℕ) → x % row_width n < row_width n
  column_of x = mod-lt x wide

  -- the same at a place
  pub up : (x : ℕ) → x < place_count n → ((link_at n x).0 < (link_at n x).1) × ((link_at n x).1 < n)
  up x low = rising (x / row_width n) (x % row_width n) (row_of x low) (column_of x)

  -- a row and a column have one place
  pub back : (x y : ℕ) → (x / row_width n ≡ y / row_width n) × (x % row_width n ≡ y % row_width n) → x ≡ y
  back x y same = sym (div-add-mod x (row_width n)) ∙ rw (same.0, same.1) (div-add-mod y (row_width n))

  ordered : (u v : ℕ) (l : Link) → u < v → l.0 < l.1 → joins u v l ≡ true → (u ≡ l.0) × (v ≡ l.1)
  ordered u v l a b h = (grind (arith, nat_tests), grind (arith, nat_tests))

  other_link : (x y : ℕ) → x < place_count n → y < place_count n → x ≢ y → joins (link_at n x).0 (link_at n x).1 (link_at n y) ≡ false
  other_link x y a b different =
      elim (cases_Bool (joins (link_at n x).0 (link_at n x).1 (link_at n y))) [
        | inl joined ↦
            let ends = ordered (link_at n x).0 (link_at n x).1 (link_at n y) (up x a).0 (up y b).0 joined in
            absurd (different (back x y (same_place (x / row_width n) (x % row_width n) (y / row_width n) (y % row_width n) (row_of x a) (column_of x) (row_of y b) (column_of y) ends.0 ends.1)))
        | inr none ↦ none
      ]

  none_other : (x : ℕ) (xs : List ℕ) → x < place_count n → All (λ y. y < place_count n) xs → All (λ y. x ≢ y) xs → list_any (joins (link_at n x).0 (link_at n x).1) (map (link_at n) xs) ≡ false
  none_other x [] low all apart = refl
  none_other x (y ∷ ys) low all apart =
      rw (other_link x y low (all 0 0 (omega arith)) (apart 0 0 (omega arith)))
      (none_other x ys low (λ k d h. all (suc k) d (omega arith)) (λ k d h. apart (suc k) d (omega arith)))

  once_all : (xs : List ℕ) → All (λ y. y < place_count n) xs → AllPairs (λ a b. a ≢ b) xs → has_link_twice (map (link_at n) xs) ≡ false
  once_all [] all apart = refl
  once_all (x ∷ xs) all apart =
      rw (none_other x xs (all 0 0 (omega arith)) (λ k d h. all (suc k) d (omega arith)) (λ k d h. apart 0 (suc k) d (omega arith) (omega arith)))
      (once_all xs (λ k d h. all (suc k) d (omega arith)) (λ i j d a b. apart (suc i) (suc j) d (omega arith) (omega arith)))

  straight_all : (xs : List ℕ) → All (λ y. y < place_count n) xs → list_any is_self_link (map (link_at n) xs) ≡ false
  straight_all [] all = refl
  straight_all (x ∷ xs) all =
      let here = (up x (all 0 0 (omega arith))).0 in
      rw (unlike (link_at n x).0 (link_at n x).1 here) (straight_all xs (λ k d h. all (suc k) d (omega arith))) where
        unlike : (u v : ℕ) → u < v → (u == v) ≡ false
        unlike u v low = grind (arith, nat_tests)

  within_all : (xs : List ℕ) → All (λ y. y < place_count n) xs → AllWithin n (map (link_at n) xs)
  within_all [] all = tt
  within_all (x ∷ xs) all =
      let here = up x (all 0 0 (omega arith)) in
      ((omega (arith, here.0, here.1), here.1), within_all xs (λ k d h. all (suc k) d (omega arith)))

  -- the link has weight 1
  pub one : (i j : ℕ) → (link_in_row n i j).2 ≡ 1
  one i j =
      elim (cases_Bool (nat_lt j (n - 1 - i))) [
        | inl first ↦ rw first refl
        | inr second ↦ rw second refl
      ]

  weights_all : (xs : List ℕ) → AllByRecursion (λ l. l.2 ≡ 1) (map (link_at n) xs)
  weights_all [] = tt
  weights_all (x ∷ xs) = (one (x / row_width n) (x % row_width n), weights_all xs)

  -- different places are different links
  pub simple_at : (count : ℕ) (xs : List ℕ) → IsSampleOf (place_count n) count xs → AreSimpleLinks n (map (link_at n) xs)
  simple_at count xs s = record {
    weights = weights_all xs;
    within = within_all xs s.in_range;
    apart = straight_all xs s.in_range;
    once = once_all xs s.in_range s.distinct;
  }

half : (a : ℕ) → a * 2 / 2 ≡ a
half a = omega arith

even : (m : ℕ) → 2 * m * (2 * m - 1) ≡ m * (2 * ((2 * m - 1) / 2) + 1) * 2
even zero = refl
even (suc m) =
    let less : 2 * suc m - 1 ≡ 2 * m + 1 = omega arith in
    let halved : (2 * m + 1) / 2 ≡ m = omega arith in
    rw (less, halved) (omega arith)

odd : (m : ℕ) → (2 * m + 1) * (2 * m) ≡ m * (2 * m + 1) * 2
odd m = omega arith

places_even : (m : ℕ) → pair_count (2 * m) ≡ place_count (2 * m)
places_even m =
    let halved : 2 * m / 2 ≡ m = omega arith in
    rw (even m, halved) (half (m * (2 * ((2 * m - 1) / 2) + 1)))

places_odd : (m : ℕ) → pair_count (2 * m + 1) ≡ place_count (2 * m + 1)
places_odd m =
    let less : 2 * m + 1 - 1 ≡ 2 * m = omega arith in
    let halved : 2 * m / 2 ≡ m = omega arith in
    let row : (2 * m + 1) / 2 ≡ m = omega arith in
    rw (less, odd m, halved, row) (half (m * (2 * m + 1)))

-- there are as many places as pairs
pub places_are_pairs : (n : ℕ) → pair_count n ≡ place_count n
places_are_pairs n =
    elim (cases_Bool (n % 2 == 0)) [
      | inl none ↦ let is : 2 * (n / 2) ≡ n = grind (arith, nat_tests) in subst (λ k. pair_count k ≡ place_count k) is (places_even (n / 2))
      | inr one ↦ let is : 2 * (n / 2) + 1 ≡ n = grind (arith, nat_tests) in subst (λ k. pair_count k ≡ place_count k) is (places_odd (n / 2))
    ]

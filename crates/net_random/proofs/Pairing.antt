-- Each pair of nodes has one place.
use Rattle.std.proofs.Common.{◌≡◌, ℕ, ◌+◌, ◌-◌, ◌*◌, ◌/◌, ◌%◌, ◌<◌, ◌≤◌, true, false, nat_lt, ap, refl, sym, subst, ◌∙◌, inl, inr, arith}
use Rattle.std.proofs.lemmas.Bool.{cases_Bool}
use Rattle.std.proofs.lemmas.Bool.Decides.{nat_tests}
use Rattle.std.proofs.lemmas.Nat.{div-mul-add, mod-mul-add}
use Rattle.std.proofs.Math.Nat.{div-lt_iff_lt-mul}
use Rattle.net_text.specs.Listing.{Link}
use Rattle.net_random.specs.Pairs.{ArePlacesOfPairs, EachPairHasOnePlace, row_width, place_count, link_in_row, link_at}
use Rattle.net_random.proofs.Places.{back, column_of, one, places_are_pairs, row_of, same_place, up, wide}

module _ (n : ℕ) (some : 1 ≤ n) where
  -- the place at a row and a column
  at_row : (i j : ℕ) → i < n / 2 → j < row_width n → (k : ℕ) × (k < place_count n) × (link_at n k ≡ link_in_row n i j)
  at_row i j row column =
      let k = i * row_width n + j in
      let high : k / row_width n ≡ i = div-mul-add i (row_width n) j column in
      let low : k % row_width n ≡ j = mod-mul-add i (row_width n) j column in (
        k,
        (div-lt_iff_lt-mul (wide n some)).0 (subst (λ (r : ℕ). r < n / 2) (sym high) row),
        ap (λ (r : ℕ). link_in_row n r (k % row_width n)) high ∙ ap (link_in_row n i) low,
      )

  -- the pairs of the node of a row
  of_node : (u w : ℕ) → u < w → w < n → u < n / 2 → (k : ℕ) × (k < place_count n) × (link_at n k ≡ (u, w, 1))
  of_node u w rise inside row =
      let column : w - u - 1 < row_width n = omega (arith, rise, inside) in
      let first : nat_lt (w - u - 1) (n - 1 - u) ≡ true = grind (arith, nat_tests, rise, inside) in
      let end : u + 1 + (w - u - 1) ≡ w = omega (arith, rise) in
      let here = at_row u (w - u - 1) row column in
      (here.0, here.1, here.2 ∙ rw (first, end) refl)

  -- those of the other node
  of_other : (u w : ℕ) → u < w → w < n → n / 2 ≤ u → (k : ℕ) × (k < place_count n) × (link_at n k ≡ (u, w, 1))
  of_other u w rise inside high =
      let i = 2 * (n - 1) - row_width n - u in
      let j = n - 1 - i + (w - u - 1) in
      let row : i < n / 2 = omega (arith, rise, inside, high, some) in
      let column : j < row_width n = omega (arith, rise, inside, high, some) in
      let second : nat_lt j (n - 1 - i) ≡ false = grind (arith, nat_tests) in
      let start : 2 * (n - 1) - row_width n - i ≡ u = omega (arith, rise, inside, high, some) in
      let end : u + 1 + (j - (n - 1 - i)) ≡ w = omega (arith, rise) in
      let here = at_row i j row column in
      (here.0, here.1, here.2 ∙ rw (second, start, end) refl)

  by_row : (u w : ℕ) → u < w → w < n → (k : ℕ) × (k < place_count n) × (link_at n k ≡ (u, w, 1))
  by_row u w rise inside =
      elim (cases_Bool (nat_lt u (n / 2))) [
        | inl low ↦ let row : u < n / 2 = grind (arith, nat_tests, low) in of_node u w rise inside row
        | inr high ↦ let past : n / 2 ≤ u = grind (arith, nat_tests, high) in of_other u w rise inside past
      ]

  pub are_places : ArePlacesOfPairs n
  are_places = record {
    count = sym (places_are_pairs n);
    joins = λ k low. record {
      rises = (up n some k low).0;
      within = (up n some k low).1;
      weight = one n some (k / row_width n) (k % row_width n);
    };
    apart = λ k m a b same. back n some k m (same_place n some (k / row_width n) (k % row_width n) (m / row_width n) (m % row_width n)
        (row_of n some k a) (column_of n some k) (row_of n some m b) (column_of n some m) (ap (λ (l : Link). l.0) same) (ap (λ (l : Link). l.1) same));
    all = by_row;
  }

pub each_pair_has_one_place : EachPairHasOnePlace
each_pair_has_one_place n some = are_places n some

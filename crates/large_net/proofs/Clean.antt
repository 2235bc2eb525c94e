-- Lists that hold a network have no fault.
use Rattle.std.proofs.Common.{◌≡◌, ◌∙◌, ℕ, ◌+◌, ◌-◌, ◌<◌, ◌≤◌, Bool, false, not, ◌&&◌, ◌||◌, eqb, List, length, get_or, zero, suc, nat_lt, nat_le, refl, ap, None, option_map, arith, inl, inr}
use Rattle.std.specs.List.{find, position, position_or_len, range_with_len, zip}
use Rattle.std.specs.Option.{option_or}
use Rattle.std.proofs.lemmas.Bool.{cases_Bool}
use Rattle.std.proofs.lemmas.Bool.Decides.{nat_tests}
use Rattle.std.proofs.lemmas.List.Sums.{position_or_len_is}
use Rattle.link_net.specs.Neighbours.{numbers_below, degree}
use Rattle.link_net.specs.Layout.{rows_of, AreOffsets}
use Rattle.large_net.specs.Large.{AreLaidOut}
use Rattle.large_net.specs.File.{is_bad_offset, is_wide, rows_fault}
use Rattle.large_net.specs.declared.fault.LargeFault.TheVariants.{Offsets, TooManyNeighbours, Neighbour}
use Rattle.large_net.proofs.Parts.{rows_count, length_part}
use Rattle.large_net.proofs.Sound.{items_placed, row_part, slot_value}

-- a search that none passes
found_none : (p : ℕ → Bool) (a n : ℕ) → ((u : ℕ) → a ≤ u → u < a + n → p u ≡ false) → find p (range_with_len a n) ≡ None
found_none p a zero fails = refl
found_none p a (suc n) fails =
    rw (fails a (omega arith) (omega arith)) (found_none p (a + 1) n (λ u low high. fails u (omega arith) (omega (arith, high))))

placed_none : (p : ℕ → Bool) (xs : List ℕ) → ((i : ℕ) → i < length xs → p (get_or xs i 0) ≡ false) → position p xs ≡ None
placed_none p xs fails =
    let all : position_or_len p xs ≡ length xs = position_or_len_is p xs (length xs) 0 (omega arith) fails (λ h. absurd (omega arith)) in
    let past : nat_lt (length xs) (length xs) ≡ false = grind (arith, nat_tests) in
    rw (all, past) refl

module _ (offsets : List ℕ) (ends : ℕ) (some : 2 ≤ length offsets) (good : AreOffsets offsets ends) where
  no_bad_offset : (u : ℕ) → u < length offsets → is_bad_offset offsets ends u ≡ false
  no_bad_offset u low =
      elim (cases_Bool (eqb (u + 1) (length offsets))) [
        | inl last ↦
            let at : u ≡ length offsets - 1 = grind (arith, nat_tests) in
            let value : get_or offsets u 0 ≡ ends = ap (λ k. get_or offsets k 0) at ∙ good.last in
            let same : not (eqb (get_or offsets u 0) ends) ≡ false = grind (arith, nat_tests) in
            rw last same
        | inr inner ↦
            let more : u + 1 < length offsets = grind (arith, nat_tests) in
            let up : get_or offsets u 0 ≤ get_or offsets (u + 1) 0 = good.rising u (u + 1) 0 (omega arith) more in
            rw inner (first u up)
      ] where
        first : (u : ℕ) → get_or offsets u 0 ≤ get_or offsets (u + 1) 0 → ((eqb u 0 && not (eqb (get_or offsets u 0) 0)) || nat_lt (get_or offsets (u + 1) 0) (get_or offsets u 0)) ≡ false
        first zero up = let begins = good.first in grind (arith, nat_tests)
        first (suc u) up = grind (arith, nat_tests)

  -- the node in whose part a place lies
  pub node_of_place : (i n : ℕ) → n < length offsets → i < get_or offsets n 0 → (u : ℕ) × (u < n) × (get_or offsets u 0 ≤ i) × (i < get_or offsets (u + 1) 0)
  node_of_place i zero low high = absurd (omega (arith, good.first, high))
  node_of_place i (suc n) low high =
      elim (cases_Bool (nat_lt i (get_or offsets n 0))) [
        | inl before ↦
            let less : i < get_or offsets n 0 = grind (arith, nat_tests) in
            let found = node_of_place i n (omega arith) less in
            (found.0, omega (arith, found.1), found.2, found.3)
        | inr here ↦
            let from : get_or offsets n 0 ≤ i = grind (arith, nat_tests) in
            let next : suc n ≡ n + 1 = omega arith in
            (n, omega arith, from, rw next at high)
      ]

module _ (offsets ns ws : List ℕ) (laid : AreLaidOut offsets ns ws) where
  nothing_wide : (u : ℕ) → u < length offsets - 1 → is_wide offsets u ≡ false
  nothing_wide u low =
      let placed = items_placed offsets ns ws laid.held.placed laid.held.paired in
      let long = length_part offsets (zip ns ws) placed u (omega arith) in
      let few = laid.held.rows.degrees u in
      let bound : get_or offsets (u + 1) 0 - get_or offsets u 0 ≤ 4294967295 = omega (arith, long, few, ap length (row_part offsets ns ws laid.held.placed laid.held.paired u low)) in
      grind (arith, nat_tests)

  no_stray : (i : ℕ) → i < length ns → nat_le (length offsets - 1) (get_or ns i 0) ≡ false
  no_stray i low =
      let good = laid.held.placed in
      let placed = items_placed offsets ns ws good laid.held.paired in
      let found = node_of_place offsets (length ns) laid.some good i (length offsets - 1) (omega (arith, laid.some)) (omega (arith, good.last, low)) in
      let u = found.0 in
      let from = get_or offsets u 0 in
      let to = get_or offsets (u + 1) 0 in
      let node : u < length offsets - 1 = found.1 in
      let j = i - from in
      let at : from + j ≡ i = omega (arith, found.2) in
      let near : j < to - from = omega (arith, found.2, found.3) in
      let long = length_part offsets (zip ns ws) placed u (omega arith) in
      let is = row_part offsets ns ws good laid.held.paired u node in
      let slot : j < degree (rows_of offsets ns ws) u = omega (arith, near, long, ap length is) in
      let less = laid.held.rows.within u j slot in
      let value = slot_value offsets ns ws good laid.held.paired u j node near (omega (arith, at, low)) in
      let here : get_or ns (from + j) 0 ≡ get_or ns i 0 = ap (λ k. get_or ns k 0) at in
      let below : get_or ns i 0 < length offsets - 1 = omega (arith, value, here, less, rows_count offsets ns ws) in
      grind (arith, nat_tests)

  pub clean_lists : rows_fault offsets ns ≡ None
  clean_lists =
      let bad : find (is_bad_offset offsets (length ns)) (numbers_below (length offsets)) ≡ None
      = found_none (is_bad_offset offsets (length ns)) 0 (length offsets) (λ u low high. no_bad_offset offsets (length ns) laid.some laid.held.placed u (omega (arith, high))) in
      let wide : find (is_wide offsets) (numbers_below (length offsets - 1)) ≡ None
      = found_none (is_wide offsets) 0 (length offsets - 1) (λ u low high. nothing_wide u (omega (arith, high))) in
      let stray : position (λ v. nat_le (length offsets - 1) v) ns ≡ None = placed_none (λ v. nat_le (length offsets - 1) v) ns no_stray in
      ap (λ o. option_or (option_map Offsets o) (option_or (option_map TooManyNeighbours (find (is_wide offsets) (numbers_below (length offsets - 1)))) (option_map Neighbour (position (λ v. nat_le (length offsets - 1) v) ns)))) bad
      ∙ ap (λ o. option_or (option_map TooManyNeighbours o) (option_map Neighbour (position (λ v. nat_le (length offsets - 1) v) ns))) wide
      ∙ ap (option_map Neighbour) stray

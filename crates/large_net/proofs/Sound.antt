-- Lists in which nothing is wrong hold a network.
use Rattle.std.proofs.Common.{◌≡◌, ◌∙◌, ℕ, ◌+◌, ◌-◌, ◌<◌, ◌≤◌, true, false, not, ◌&&◌, ◌||◌, eqb, List, [], length, get_or, nat_lt, nat_le, ap, drop, None, option_map, arith, inl, inr}
use Rattle.std.specs.List.{find, position, zip}
use Rattle.std.specs.Option.{option_or}
use Rattle.std.proofs.lemmas.Bool.{cases_Bool}
use Rattle.std.proofs.lemmas.Bool.Decides.{nat_tests}
use Rattle.std.proofs.lemmas.Grind.{get_or_default_zero}
use Rattle.std.proofs.lemmas.List.{get_or-take, get_or-drop}
use Rattle.std.proofs.lemmas.List.FromFn.{get_or-map-range_with_len}
use Rattle.std.proofs.lemmas.List.Sorted.{IsNonDecreasingBy-from_all_adjacent}
use Rattle.std.proofs.lemmas.Slice.Zip.{get_or-zip}
use Rattle.std.proofs.Math.ListN.{get_or-eq_default}
use Rattle.link_net.specs.Limits.{most_rows}
use Rattle.link_net.specs.Neighbours.{numbers_below, row, degree, neighbour}
use Rattle.link_net.specs.Layout.{part, rows_of, AreOffsets}
use Rattle.large_net.specs.Large.{AreLaidOut}
use Rattle.large_net.specs.File.{is_bad_offset, is_wide, rows_fault}
use Rattle.large_net.specs.declared.fault.LargeFault.TheVariants.{Offsets, TooManyNeighbours, Neighbour}
use Rattle.large_net.proofs.Parts.{rows_count, paired_length, length_part, offset_within}
use Rattle.link_net.proofs.Searches.{neither, none_mapped, none_found}
use Rattle.large_net.proofs.Searches.{none_placed}

module _ (offsets : List ℕ) (ends : ℕ) (some : 2 ≤ length offsets) (good : (u : ℕ) → u < length offsets → is_bad_offset offsets ends u ≡ false) where
  -- what is false of a place that is not the last
  inner : (u : ℕ) → u + 1 < length offsets → ((eqb u 0 && not (eqb (get_or offsets u 0) 0)) || nat_lt (get_or offsets (u + 1) 0) (get_or offsets u 0)) ≡ false
  inner u low =
      let more : eqb (u + 1) (length offsets) ≡ false = grind (arith, nat_tests) in
      rw more at (good u (omega arith))

  rises : (u : ℕ) → u + 1 < length offsets → get_or offsets u 0 ≤ get_or offsets (u + 1) 0
  rises u low = let h = inner u low in grind (arith, nat_tests)

  begins : get_or offsets 0 0 ≡ 0
  begins = let h = inner 0 (omega arith) in grind (arith, nat_tests)

  closes : get_or offsets (length offsets - 1) 0 ≡ ends
  closes =
      let last : eqb (length offsets - 1 + 1) (length offsets) ≡ true = grind (arith, nat_tests) in
      let h = rw last at (good (length offsets - 1) (omega arith)) in
      grind (arith, nat_tests)

  pub sound_offsets : AreOffsets offsets ends
  sound_offsets = record {
    some = omega arith;
    first = begins;
    last = closes;
    rising = IsNonDecreasingBy-from_all_adjacent (λ x. x) offsets (λ k d low.
        omega (arith, rises k low, get_or_default_zero offsets k d (omega (arith, low)), get_or_default_zero offsets (k + 1) d low));
  }

module _ (offsets ns ws : List ℕ) (placed : AreOffsets offsets (length ns)) (paired : length ws ≡ length ns) where
  pub items_placed : AreOffsets offsets (length (zip ns ws))
  items_placed = rw (paired_length ns ws paired) placed

  pub row_part : (u : ℕ) → u < length offsets - 1 → row (rows_of offsets ns ws) u ≡ part offsets (zip ns ws) u
  row_part u low = get_or-map-range_with_len (part offsets (zip ns ws)) 0 (length offsets - 1) u u [] low (omega arith)

  -- the neighbour at a slot stands that far after the node's offset
  pub slot_value : (u j : ℕ) → u < length offsets - 1 → j < get_or offsets (u + 1) 0 - get_or offsets u 0 → get_or offsets u 0 + j < length ns
      → neighbour (rows_of offsets ns ws) u j ≡ get_or ns (get_or offsets u 0 + j) 0
  slot_value u j low near at =
      let from = get_or offsets u 0 in
      let to = get_or offsets (u + 1) 0 in
      ap (λ (r : List (ℕ × ℕ)). (get_or r j (0, 0)).0) (row_part u low)
      ∙ ap (λ (a : ℕ × ℕ). a.0) (get_or-take (to - from) (drop from (zip ns ws)) j (0, 0) near ∙ get_or-drop from (zip ns ws) j (0, 0) ∙ get_or-zip ns ws (from + j) (0, 0) at (omega (arith, at, paired)))

  no_row : (u : ℕ) → length offsets - 1 ≤ u → row (rows_of offsets ns ws) u ≡ []
  no_row u high = get_or-eq_default (rows_of offsets ns ws) [] (omega (arith, rows_count offsets ns ws, high))

  narrow : ((u : ℕ) → u < length offsets - 1 → is_wide offsets u ≡ false) → (u : ℕ) → degree (rows_of offsets ns ws) u ≤ most_rows
  narrow wide u =
      elim (cases_Bool (nat_lt u (length offsets - 1))) [
        | inl here ↦
            let low : u < length offsets - 1 = grind (arith, nat_tests) in
            let long = length_part offsets (zip ns ws) items_placed u (omega arith) in
            let few = wide u low in
            let bound : get_or offsets (u + 1) 0 - get_or offsets u 0 ≤ most_rows = grind (arith, nat_tests) in
            omega (arith, long, bound, ap length (row_part u low))
        | inr past ↦
            let high : length offsets - 1 ≤ u = grind (arith, nat_tests) in
            omega (arith, ap length (no_row u high))
      ]

  inside : ((i : ℕ) → i < length ns → nat_le (length offsets - 1) (get_or ns i 0) ≡ false)
      → (u j : ℕ) → j < degree (rows_of offsets ns ws) u → neighbour (rows_of offsets ns ws) u j < length (rows_of offsets ns ws)
  inside stray u j low =
      elim (cases_Bool (nat_lt u (length offsets - 1))) [
        | inl here ↦
            let node : u < length offsets - 1 = grind (arith, nat_tests) in
            let from = get_or offsets u 0 in
            let to = get_or offsets (u + 1) 0 in
            let long = length_part offsets (zip ns ws) items_placed u (omega arith) in
            let end : to ≤ length (zip ns ws) = offset_within offsets (zip ns ws) items_placed (u + 1) (omega arith) in
            let total = paired_length ns ws paired in
            let near : j < to - from = omega (arith, long, low, ap length (row_part u node)) in
            let at : from + j < length ns = omega (arith, near, end, total) in
            let value = slot_value u j node near at in
            let few = stray (from + j) at in
            let less : get_or ns (from + j) 0 < length offsets - 1 = grind (arith, nat_tests) in
            omega (arith, value, less, rows_count offsets ns ws)
        | inr past ↦
            let high : length offsets - 1 ≤ u = grind (arith, nat_tests) in
            absurd (omega (arith, low, ap length (no_row u high)))
      ]

-- where there is no fault the lists hold a network
pub sound_lists : (offsets ns ws : List ℕ) → 2 ≤ length offsets → length offsets ≤ 4294967296 → length ws ≡ length ns → rows_fault offsets ns ≡ None → AreLaidOut offsets ns ws
sound_lists offsets ns ws some few paired clean =
    let first = neither (option_map Offsets (find (is_bad_offset offsets (length ns)) (numbers_below (length offsets)))) (option_or (option_map TooManyNeighbours (find (is_wide offsets) (numbers_below (length offsets - 1)))) (option_map Neighbour (position (λ v. nat_le (length offsets - 1) v) ns))) clean in
    let second = neither (option_map TooManyNeighbours (find (is_wide offsets) (numbers_below (length offsets - 1)))) (option_map Neighbour (position (λ v. nat_le (length offsets - 1) v) ns)) first.1 in
    let bad : find (is_bad_offset offsets (length ns)) (numbers_below (length offsets)) ≡ None = none_mapped Offsets _ first.0 in
    let wide : find (is_wide offsets) (numbers_below (length offsets - 1)) ≡ None = none_mapped TooManyNeighbours _ second.0 in
    let stray : position (λ v. nat_le (length offsets - 1) v) ns ≡ None = none_mapped Neighbour _ second.1 in
    let placed = sound_offsets offsets (length ns) some (λ u low. none_found (is_bad_offset offsets (length ns)) 0 (length offsets) bad u (omega arith) (omega (arith, low))) in
    record {
      some = some;
      held = record {
        placed = placed;
        paired = paired;
        rows = record {
          nodes = omega (arith, rows_count offsets ns ws, few);
          degrees = narrow offsets ns ws placed paired (λ u low. none_found (is_wide offsets) 0 (length offsets - 1) wide u (omega arith) (omega (arith, low)));
          within = inside offsets ns ws placed paired (none_placed (λ v. nat_le (length offsets - 1) v) ns stray);
        };
      };
    }

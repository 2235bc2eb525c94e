-- The parts of one list between offsets.
use Rattle.std.proofs.Common.{◌≡◌, ◌∙◌, ℕ, ◌+◌, ◌-◌, ◌<◌, ◌≤◌, List, length, get_or, zero, suc, sym, map, drop, length-take, length-drop, arith}
use Rattle.std.specs.List.{sum_by, zip}
use Rattle.std.proofs.lemmas.List.FromFn.{length-map-range_with_len, sum_by-map-range_with_len_more}
use Rattle.std.proofs.lemmas.Slice.Zip.{length-zip}
use Rattle.link_net.specs.Neighbours.{numbers_below}
use Rattle.link_net.specs.Layout.{part, rows_of, AreOffsets}
use Rattle.large_net.specs.Large.{AreLaidOut}

module _ {X : Type 0} (offsets : List ℕ) (items : List X) (good : AreOffsets offsets (length items)) where
  -- each offset is within the items
  pub offset_within : (u : ℕ) → u < length offsets → get_or offsets u 0 ≤ length items
  offset_within u low = omega (arith, good.last, good.rising u (length offsets - 1) 0 (omega arith) (omega arith))

  pub length_part : (u : ℕ) → u + 1 < length offsets → length (part offsets items u) + get_or offsets u 0 ≡ get_or offsets (u + 1) 0
  length_part u low =
      let i = get_or offsets u 0 in
      let j = get_or offsets (u + 1) 0 in
      let up : i ≤ j = good.rising u (u + 1) 0 (omega arith) low in
      let within : j ≤ length items = offset_within (u + 1) low in
      omega (arith, length-take (j - i) (drop i items), length-drop i items)

  up_to : (u m : ℕ) → m ≡ u + 1 → sum_by length (map (part offsets items) (numbers_below u)) ≡ get_or offsets u 0
      → length (part offsets items u) + get_or offsets u 0 ≡ get_or offsets (u + 1) 0 → sum_by length (map (part offsets items) (numbers_below m)) ≡ get_or offsets m 0
  up_to u m is before here = rw is (sum_by-map-range_with_len_more length (part offsets items) 0 u u (omega arith) ∙ omega (arith, before, here))

  -- the parts before u are as long as the offset of u says
  pub sum_below : (u : ℕ) → u < length offsets → sum_by length (map (part offsets items) (numbers_below u)) ≡ get_or offsets u 0
  sum_below zero low = sym good.first
  sum_below (suc u) low = up_to u (suc u) (omega arith) (sum_below u (omega arith)) (length_part u (omega arith))

  pub sum_parts : sum_by length (map (part offsets items) (numbers_below (length offsets - 1))) ≡ length items
  sum_parts = sum_below (length offsets - 1) (omega (arith, good.some)) ∙ good.last

pub paired_length : (ns ws : List ℕ) → length ws ≡ length ns → length (zip ns ws) ≡ length ns
paired_length ns ws same = omega (arith, length-zip ns ws, same)

module _ (offsets ns ws : List ℕ) where
  pub rows_count : length (rows_of offsets ns ws) ≡ length offsets - 1
  rows_count = length-map-range_with_len (part offsets (zip ns ws)) 0 (length offsets - 1)

  pub rows_sum : length ws ≡ length ns → AreOffsets offsets (length ns) → sum_by length (rows_of offsets ns ws) ≡ length ns
  rows_sum same good =
      let long = paired_length ns ws same in
      sum_parts offsets (zip ns ws) (rw long good) ∙ long

  pub few_nodes : AreLaidOut offsets ns ws → length offsets ≤ 4294967296
  few_nodes laid = omega (arith, laid.held.rows.nodes, rows_count)

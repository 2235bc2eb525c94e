-- The links of a row, slot by slot.
use Rattle.std.proofs.Common.{◌≡◌, ◌∙◌, ℕ, ◌+◌, ◌<◌, ◌≤◌, false, true, nat_lt, List, ◌∷◌, length, get_or, drop, zip, ap, arith}
use Rattle.std.proofs.lemmas.Bool.Decides.{nat_tests}
use Rattle.std.proofs.lemmas.List.{at_drop_more}
use Rattle.std.proofs.lemmas.Slice.Zip.{get_or-zip, length-zip}
use Rattle.net_text.specs.RowLinks.{links_up}

module _ (u slot : ℕ) (ns ws : List ℕ) (paired : length ws ≡ length ns) (inside : slot < length ns) where
  one_slot : links_up u (drop slot (zip ns ws)) ≡ links_up u ((get_or ns slot 0, get_or ws slot 0) ∷ drop (slot + 1) (zip ns ws))
  one_slot =
      at_drop_more (links_up u) (zip ns ws) slot (0, 0) (omega (arith, length-zip ns ws))
      ∙ ap (λ a. links_up u (a ∷ drop (slot + 1) (zip ns ws))) (get_or-zip ns ws slot (0, 0) inside (omega arith))

  -- to a neighbour whose number is not lower
  pub taken : u ≤ get_or ns slot 0 → links_up u (drop slot (zip ns ws)) ≡ (u, get_or ns slot 0, get_or ws slot 0) ∷ links_up u (drop (slot + 1) (zip ns ws))
  taken up = let test : nat_lt (get_or ns slot 0) u ≡ false = grind (arith, nat_tests) in rw test at one_slot

  -- and to another
  pub passed : get_or ns slot 0 < u → links_up u (drop slot (zip ns ws)) ≡ links_up u (drop (slot + 1) (zip ns ws))
  passed down = let test : nat_lt (get_or ns slot 0) u ≡ true = grind (arith, nat_tests) in rw test at one_slot

-- Networks that show the same are laid out the same.
use Rattle.std.proofs.Common.{◌≡◌, ◌∙◌, ℕ, ◌+◌, ◌-◌, ◌<◌, ◌≤◌, true, List, [], ◌∷◌, ◌++◌, length, get_or, zero, suc, sym, ap, map, take, drop, nat_eq, arith}
use Rattle.std.specs.List.{sum_by, zip, range_with_len}
use Rattle.std.specs.Cmp.Lexicographic.{pointwise}
use Rattle.std.proofs.lemmas.Slice.Eq.{bytes_eq-Decides}
use Rattle.std.proofs.lemmas.List.{drop-drop, take-append-drop, drop_all}
use Rattle.std.proofs.lemmas.List.FromFn.{take-map-range_with_len, fill_by_all}
use Rattle.link_net.specs.Neighbours.{Neighbours, numbers_below}
use Rattle.link_net.specs.Layout.{part, rows_of, AreOffsets, HoldRows}
use Rattle.link_net.proofs.Parts.{length_zip, firsts_zip, seconds_zip, sum_below}
use Rattle.link_net.proofs.Looks.{rows_count}

-- the lists one after another
abbrev joined : {X : Type 0} → List (List X) → List X
joined [] = []
joined (xs ∷ xss) = xs ++ joined xss

-- a part, and what lies after it
part_and_rest : {X : Type 0} (i j : ℕ) (xs : List X) → i ≤ j → take (j - i) (drop i xs) ++ drop j xs ≡ drop i xs
part_and_rest i j xs order =
    let behind : drop (j - i) (drop i xs) ≡ drop j xs = drop-drop (j - i) i xs ∙ ap (λ k. drop k xs) (omega arith) in
    ap (λ t. take (j - i) (drop i xs) ++ t) (sym behind) ∙ take-append-drop (j - i) (drop i xs)

from_parts : {X : Type 0} (offsets : List ℕ) (items : List X) → AreOffsets offsets (length items) → (n u : ℕ) → u + n ≡ length offsets - 1
    → joined (map (part offsets items) (range_with_len u n)) ≡ drop (get_or offsets u 0) items
from_parts offsets items good zero u at_end =
    let last : get_or offsets u 0 ≡ length items = rw (← at_end, plain u) at good.last in
    sym (drop_all (get_or offsets u 0) items (omega arith)) where
      plain : (u : ℕ) → u + 0 ≡ u
      plain u = omega arith
from_parts offsets items good (suc n) u at_end =
    let up : get_or offsets u 0 ≤ get_or offsets (u + 1) 0 = good.rising u (u + 1) 0 (omega arith) (omega arith) in
    ap (λ t. part offsets items u ++ t) (from_parts offsets items good n (u + 1) (omega arith)) ∙ part_and_rest (get_or offsets u 0) (get_or offsets (u + 1) 0) items up

module _ (offsets ns ws : List ℕ) (laid : HoldRows offsets ns ws) where
  abbrev net : Neighbours
  net = rows_of offsets ns ws

  good : AreOffsets offsets (length (zip ns ws))
  good = rw (length_zip ns ws laid.paired) laid.placed

  -- what the lists show gives them back
  all_joined : joined net ≡ zip ns ws
  all_joined = from_parts offsets (zip ns ws) good (length offsets - 1) 0 (omega arith) ∙ ap (λ k. drop k (zip ns ws)) laid.placed.first

  pub neighbours_shown : ns ≡ map (λ a. a.0) (joined net)
  neighbours_shown = sym (ap (map (λ (a : ℕ × ℕ). a.0)) all_joined ∙ firsts_zip ns ws laid.paired)

  pub weights_shown : ws ≡ map (λ a. a.1) (joined net)
  weights_shown = sym (ap (map (λ (a : ℕ × ℕ). a.1)) all_joined ∙ seconds_zip ns ws laid.paired)

  offset_shown : (u : ℕ) → u < length net + 1 → get_or offsets u 0 ≡ sum_by length (take u net)
  offset_shown u low =
      let count = rows_count offsets ns ws in
      let within : u < length offsets = omega (arith, laid.placed.some) in
      sym (ap (sum_by length) (take-map-range_with_len (part offsets (zip ns ws)) 0 (length offsets - 1) u (omega arith)) ∙ sum_below offsets (zip ns ws) good u within)

  pub offsets_shown : offsets ≡ map (λ u. sum_by length (take u net)) (numbers_below (length net + 1))
  offsets_shown =
      let count = rows_count offsets ns ws in
      fill_by_all (λ u. sum_by length (take u net)) offsets (length net + 1) 0 (omega (arith, laid.placed.some)) offset_shown

equal : (xs ys : List ℕ) → pointwise nat_eq xs ys ≡ true → xs ≡ ys
equal xs ys h = (bytes_eq-Decides xs ys).0 h

test : (xs ys : List ℕ) → xs ≡ ys → pointwise nat_eq xs ys ≡ true
test xs ys h = (bytes_eq-Decides xs ys).1 h

module _ (o o' ns ns' ws ws' : List ℕ) (now now' : Neighbours) (is : rows_of o ns ws ≡ now) (is' : rows_of o' ns' ws' ≡ now') where
  pub same_value : pointwise nat_eq o o' ≡ true → pointwise nat_eq ns ns' ≡ true → pointwise nat_eq ws ws' ≡ true → now ≡ now'
  same_value p q r =
      let e = equal o o' p in
      let f = equal ns ns' q in
      let g = equal ws ws' r in
      sym is ∙ rw (e, f, g) is'

  module _ (laid : HoldRows o ns ws) (laid' : HoldRows o' ns' ws') (same : now ≡ now') where
    nets : rows_of o ns ws ≡ rows_of o' ns' ws'
    nets = is ∙ same ∙ sym is'

    pub same_offsets : pointwise nat_eq o o' ≡ true
    same_offsets = test o o' (offsets_shown o ns ws laid ∙ ap (λ net. map (λ u. sum_by length (take u net)) (numbers_below (length net + 1))) nets ∙ sym (offsets_shown o' ns' ws' laid'))

    pub same_neighbours : pointwise nat_eq ns ns' ≡ true
    same_neighbours = test ns ns' (neighbours_shown o ns ws laid ∙ ap (λ net. map (λ a. a.0) (joined net)) nets ∙ sym (neighbours_shown o' ns' ws' laid'))

    pub same_weights : pointwise nat_eq ws ws' ≡ true
    same_weights = test ws ws' (weights_shown o ns ws laid ∙ ap (λ net. map (λ a. a.1) (joined net)) nets ∙ sym (weights_shown o' ns' ws' laid'))

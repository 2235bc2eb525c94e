-- The lists made of the sorted arcs hold the network of the links.
use Rattle.std.proofs.Common.{◌≡◌, ◌∙◌, ℕ, ◌+◌, ◌-◌, ◌*◌, ◌<◌, ◌≤◌, false, List, [], ◌∷◌, length, get_or, nat_lt, refl, sym, ap, map, arith}
use Rattle.std.specs.List.{list_any, zip, sum_by}
use Rattle.std.specs.List.Sorted.{IsPermutation, IsStrictlySortedBy}
use Rattle.std.proofs.lemmas.List.{length-map}
use Rattle.std.proofs.lemmas.List.Sorted.{length_permutation}
use Rattle.link_net.specs.Limits.{most_nodes, most_links, most_neighbours}
use Rattle.link_net.specs.Neighbours.{numbers_below}
use Rattle.link_net.specs.Links.{is_self_link, has_link_twice, linked_with, weight_of, neighbours_of, network_of, AllWithin}
use Rattle.link_net.specs.Reading.{is_crowded}
use Rattle.link_net.specs.Arcs.{Arc, arcs_of, arc_cmp, IsFirst}
use Rattle.link_net.specs.Layout.{part, rows_of, AreOffsets, IsLaidOut}
use Rattle.link_net.proofs.Rows.{shown, from_node, ends_from, ends-neighbours, arcs_within, from_within, to_within}
use Rattle.link_net.proofs.Ranges.{map_agrees, any_agrees}
use Rattle.link_net.proofs.ArcWeights.{arcs_weigh, ends_weigh}
use Rattle.link_net.proofs.Offsets.{part_is, are_offsets}
use Rattle.link_net.proofs.Parts.{map_part, length_part}
use Rattle.link_net.proofs.Looks.{rows_sum}
use Rattle.link_net.proofs.Whole.{is_network}

zip_columns : (arcs : List Arc) → zip (map (λ a. a.1) arcs) (map (λ a. a.2) arcs) ≡ map shown arcs
zip_columns [] = refl
zip_columns (a ∷ arcs) = ap (λ t. shown a ∷ t) (zip_columns arcs)

twice_as_many : (links : List Arc) → length (arcs_of links) ≡ 2 * length links
twice_as_many [] = refl
twice_as_many (l ∷ ls) = omega (arith, twice_as_many ls)

-- the arcs of sound links in order, and the places at which each node's begin
pub record AreTables (n : ℕ) (links arcs : List Arc) (offsets : List ℕ) : Type 0 where
  pub within : AllWithin n links
  pub once : has_link_twice links ≡ false
  pub moved : IsPermutation (arcs_of links) arcs
  pub sorted : IsStrictlySortedBy arc_cmp arcs
  pub count : length offsets ≡ n + 1
  pub firsts : (u : ℕ) → u < length offsets → IsFirst arcs u (get_or offsets u 0)

module _ (n : ℕ) (links arcs : List Arc) (offsets : List ℕ) (made : AreTables n links arcs offsets) where
  inside : AllWithin n arcs
  inside = arcs_within n links arcs made.within made.moved

  pub placed : AreOffsets offsets (length arcs)
  placed = are_offsets arcs offsets n made.count made.firsts (from_within n arcs inside)

  ends_are : (u : ℕ) → ends_from u arcs ≡ linked_with n links u
  ends_are u = ends-neighbours n u links arcs made.moved made.sorted (to_within n arcs inside)

  abbrev targets : List ℕ
  targets = map (λ a. a.1) arcs

  abbrev weights : List ℕ
  weights = map (λ a. a.2) arcs

  row_is : (u : ℕ) → u < n → part offsets (zip targets weights) u ≡ neighbours_of n links u
  row_is u low =
      ap (λ xs. part offsets xs u) (zip_columns arcs) ∙ sym (map_part shown offsets arcs u)
      ∙ ap (map shown) (part_is arcs u _ _ (made.firsts u (omega (arith, made.count))) (made.firsts (u + 1) (omega (arith, made.count))))
      ∙ ends_weigh links u arcs (arcs_weigh links arcs made.once made.moved) ∙ ap (map (λ w. (w, weight_of links u w))) (ends_are u)

  nodes_are : length offsets - 1 ≡ n
  nodes_are = omega (arith, made.count)

  pub rows_are : rows_of offsets targets weights ≡ network_of n links
  rows_are = ap (λ k. map (part offsets (zip targets weights)) (numbers_below k)) nodes_are ∙ map_agrees (part offsets (zip targets weights)) (neighbours_of n links) 0 n (λ u low high. row_is u (omega arith))

  pub length_is : (u : ℕ) → u < n → get_or offsets (u + 1) 0 - get_or offsets u 0 ≡ length (linked_with n links u)
  length_is u low =
      let long = length_part offsets arcs placed u (omega (arith, made.count)) in
      let same : part offsets arcs u ≡ from_node u arcs = part_is arcs u _ _ (made.firsts u (omega (arith, made.count))) (made.firsts (u + 1) (omega (arith, made.count))) in
      omega (arith, long, ap length same, length-map (from_node u arcs) (λ (a : Arc). a.1), ap length (ends_are u))

  -- the test on the offsets is that on the links
  pub crowded_is : list_any (λ u. nat_lt most_neighbours (get_or offsets (u + 1) 0 - get_or offsets u 0)) (numbers_below (length offsets - 1)) ≡ is_crowded n links
  crowded_is =
      ap (λ k. list_any (λ u. nat_lt most_neighbours (get_or offsets (u + 1) 0 - get_or offsets u 0)) (numbers_below k)) nodes_are
      ∙ any_agrees (λ u. nat_lt most_neighbours (get_or offsets (u + 1) 0 - get_or offsets u 0)) (λ u. nat_lt most_neighbours (length (linked_with n links u))) 0 n
      (λ u low high. ap (nat_lt most_neighbours) (length_is u (omega arith)))

  paired : length weights ≡ length targets
  paired = length-map arcs (λ a. a.2) ∙ sym (length-map arcs (λ a. a.1))

  good : AreOffsets offsets (length targets)
  good = rw (length-map arcs (λ (a : Arc). a.1)) placed

  total : 2 * length links ≡ sum_by length (network_of n links)
  total =
      sym (twice_as_many links) ∙ sym (length_permutation (arcs_of links) arcs made.moved) ∙ sym (length-map arcs (λ a. a.1))
      ∙ sym (rows_sum offsets targets weights paired good) ∙ ap (sum_by length) rows_are

  -- the lists hold a network
  pub laid : 1 ≤ n → n ≤ most_nodes → list_any is_self_link links ≡ false → is_crowded n links ≡ false → length links ≤ most_links → IsLaidOut offsets targets weights
  laid some small straight sparse few = record {
    placed = good;
    paired = paired;
    network = rw rows_are (is_network n links some small straight sparse few total);
  }

-- The network of sound links is one.
use Rattle.std.proofs.Common.{◌≡◌, ◌≢◌, ◌∙◌, ℕ, ◌+◌, ◌*◌, ◌<◌, ◌≤◌, ◌==◌, Bool, true, false, ◌&&◌, ◌||◌, List, [], ◌∷◌, length, get_or, nat_lt, refl, sym, ap, arith, inl, inr}
use Rattle.std.proofs.lemmas.Bool.{cases_Bool, or_parts}
use Rattle.std.proofs.lemmas.Bool.Decides.{nat_tests}
use Rattle.std.proofs.lemmas.List.{length-map, get_or-map, get_or_past}
use Rattle.std.proofs.lemmas.List.Elements.{All-from_recursion}
use Rattle.std.proofs.lemmas.List.FromFn.{length-map-range_with_len, get_or-map-range_with_len}
use Rattle.std.specs.List.{list_any, sum_by}
use Rattle.link_net.specs.Limits.{most_nodes, most_links, most_neighbours}
use Rattle.link_net.specs.Neighbours.{Neighbours, row, degree, neighbour, weight, IsNetwork}
use Rattle.link_net.specs.Links.{is_self_link, joins, are_linked, linked_with, weight_of, neighbours_of, network_of}
use Rattle.link_net.specs.Arcs.{Arc}
use Rattle.link_net.specs.Reading.{is_crowded}
use Rattle.link_net.proofs.ArcLaws.{joins-sym, are_linked_sym}
use Rattle.link_net.proofs.Ranges.{none_in_range, kept_rise, kept_pass, kept_place, rises_at, Place}

-- no node is linked with itself
not_self : (u x y : ℕ) → (x == y) ≡ false → ((u == x && u == y) || (u == y && u == x)) ≡ false
not_self u x y apart = grind (arith, nat_tests)

self_apart : (links : List Arc) (u : ℕ) → list_any is_self_link links ≡ false → are_linked links u u ≡ false
self_apart [] u straight = refl
self_apart (l ∷ ls) u straight =
    let parts = or_parts (is_self_link l) (list_any is_self_link ls) straight in
    rw (not_self u l.0 l.1 parts.0) (self_apart ls u parts.1)

-- the weight is the same from both ends
pub weight_sym : (links : List Arc) (u w : ℕ) → weight_of links u w ≡ weight_of links w u
weight_sym [] u w = refl
weight_sym (l ∷ ls) u w =
    elim (cases_Bool (joins u w l)) [
      | inl here ↦ let back : joins w u l ≡ true = joins-sym w u l ∙ here in rw (here, back)
      | inr other ↦ let back : joins w u l ≡ false = joins-sym w u l ∙ other in rw (other, back) (weight_sym ls u w)
    ]

module _ (n : ℕ) (links : List Arc) where
  abbrev net : Neighbours
  net = network_of n links

  abbrev ends : ℕ → List ℕ
  ends u = linked_with n links u

  row_is : (u : ℕ) → u < n → row net u ≡ neighbours_of n links u
  row_is u low = get_or-map-range_with_len (neighbours_of n links) 0 n u u [] low (omega arith)

  row_past : (u : ℕ) → n ≤ u → row net u ≡ []
  row_past u high = get_or_past net u [] (omega (arith, length-map-range_with_len (neighbours_of n links) 0 n))

  degree_is : (u : ℕ) → u < n → degree net u ≡ length (ends u)
  degree_is u low = ap length (row_is u low) ∙ length-map (ends u) _

  -- a slot is one of a node, and a place among its ends
  slot_low : (u j : ℕ) → j < degree net u → u < n
  slot_low u j slot =
      elim (cases_Bool (nat_lt u n)) [
        | inl low ↦ grind (arith, nat_tests)
        | inr high ↦
            let past : n ≤ u = grind (arith, nat_tests) in
            absurd (omega (arith, ap length (row_past u past)))
      ]

  slot_place : (u j : ℕ) → j < degree net u → j < length (ends u)
  slot_place u j slot = omega (arith, degree_is u (slot_low u j slot))

  shows : (u j : ℕ) → u < n → j < length (ends u) → get_or (row net u) j (0, 0) ≡ (get_or (ends u) j 0, weight_of links u (get_or (ends u) j 0))
  shows u j low place = ap (λ r. get_or r j (0, 0)) (row_is u low) ∙ get_or-map (λ w. (w, weight_of links u w)) (ends u) j 0 (0, 0) place

  neighbour_is : (u j : ℕ) → u < n → j < length (ends u) → neighbour net u j ≡ get_or (ends u) j 0
  neighbour_is u j low place = ap (λ a. a.0) (shows u j low place)

  weight_is : (u j : ℕ) → u < n → j < length (ends u) → weight net u j ≡ weight_of links u (get_or (ends u) j 0)
  weight_is u j low place = ap (λ a. a.1) (shows u j low place)

  linked : (u j : ℕ) → j < length (ends u) → (are_linked links u (get_or (ends u) j 0) ≡ true) × (get_or (ends u) j 0 < 0 + n)
  linked u j place = All-from_recursion (λ y. (are_linked links u y ≡ true) × (y < 0 + n)) (ends u) (kept_pass (are_linked links u) 0 n) j 0 place

  -- the slot of w at which u stands, where w is at a slot of u
  back_from : (u w : ℕ) → u < n → are_linked links u w ≡ true → Place (ends w) u
  back_from u w low joined = kept_place (are_linked links w) 0 n u (omega arith) (omega arith) (are_linked_sym links w u ∙ joined)

  abbrev Back : ℕ → ℕ → Type 0
  Back u j = (k : ℕ) × (k < degree net (neighbour net u j)) × (neighbour net (neighbour net u j) k ≡ u) × (weight net (neighbour net u j) k ≡ weight net u j)

  both : (u j w : ℕ) → u < n → j < length (ends u) → get_or (ends u) j 0 ≡ w → w < n → Place (ends w) u → Back u j
  both u j w low place is within back =
      let k = back.0 in
      let at : neighbour net u j ≡ w = neighbour_is u j low place ∙ is in
      let here : k < degree net w = omega (arith, degree_is w within, back.1) in
      let again : neighbour net w k ≡ u = neighbour_is w k within back.1 ∙ back.2 in
      let heavy : weight net w k ≡ weight net u j =
      weight_is w k within back.1 ∙ ap (weight_of links w) back.2 ∙ weight_sym links w u ∙ ap (weight_of links u) (sym is) ∙ sym (weight_is u j low place) in
      (k, rw at here, rw at again, rw at heavy)

  both_ways : (u j : ℕ) → j < degree net u → Back u j
  both_ways u j slot =
      let low = slot_low u j slot in
      let place = slot_place u j slot in
      let w = get_or (ends u) j 0 in
      let join = linked u j place in
      both u j w low place refl (omega (arith, join.1)) (back_from u w low join.0)

  clash : (b : Bool) → b ≡ true → b ≡ false → ⊥
  clash b t f = cc

  apart : list_any is_self_link links ≡ false → (u j : ℕ) → j < degree net u → neighbour net u j ≢ u
  apart straight u j slot same =
      let low = slot_low u j slot in
      let place = slot_place u j slot in
      let is : get_or (ends u) j 0 ≡ u = sym (neighbour_is u j low place) ∙ same in
      clash (are_linked links u u) (rw is at (linked u j place).0) (self_apart links u straight)

  within : (u j : ℕ) → j < degree net u → neighbour net u j < length net
  within u j slot =
      let low = slot_low u j slot in
      let place = slot_place u j slot in
      omega (arith, neighbour_is u j low place, (linked u j place).1, length-map-range_with_len (neighbours_of n links) 0 n)

  rising : (u i j : ℕ) → i < j → j < degree net u → neighbour net u i < neighbour net u j
  rising u i j order slot =
      let low = slot_low u j slot in
      let place = slot_place u j slot in
      let up = rises_at (ends u) i j (kept_rise (are_linked links u) 0 n) order place in
      omega (arith, up, neighbour_is u i low (omega arith), neighbour_is u j low place)

  degrees : is_crowded n links ≡ false → (u : ℕ) → degree net u ≤ most_neighbours
  degrees sparse u =
      elim (cases_Bool (nat_lt u n)) [
        | inl inside ↦
            let low : u < n = grind (arith, nat_tests) in
            let short = none_in_range (λ v. nat_lt most_neighbours (length (linked_with n links v))) 0 n u sparse (omega arith) (omega arith) in
            let few : length (ends u) ≤ most_neighbours = grind (arith, nat_tests) in
            omega (arith, degree_is u low)
        | inr outside ↦
            let past : n ≤ u = grind (arith, nat_tests) in
            omega (arith, ap length (row_past u past))
      ]

  -- sound links make a network
  pub is_network : 1 ≤ n → n ≤ most_nodes → list_any is_self_link links ≡ false → is_crowded n links ≡ false → length links ≤ most_links → 2 * length links ≡ sum_by length net → IsNetwork net
  is_network some small straight sparse few count =
      let size : length net ≡ n = length-map-range_with_len (neighbours_of n links) 0 n in
      record {
        some = omega arith;
        nodes = omega arith;
        degrees = degrees sparse;
        within = within;
        apart = apart straight;
        rising = rising;
        both_ways = both_ways;
        links = (length links, few, count);
      }

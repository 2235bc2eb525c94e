-- Rows without a fault are a simple network, and what a search by halves says of a link.
use Rattle.std.proofs.Common.{◌≡◌, ◌≢◌, ◌∙◌, ℕ, zero, suc, ◌+◌, ◌-◌, ◌<◌, ◌≤◌, ◌==◌, ◌&&◌, ◌||◌, Bool, true, false, List, [], ◌∷◌, map, length, get_or, nat_lt, nat_le, nat_cmp, refl, sym, ap, Ok, Err, None, arith, inl, inr, ⊎_elim}
use Rattle.std.specs.List.{list_any}
use Rattle.std.specs.List.Sorted.{IsBinarySearchResult}
use Rattle.std.proofs.lemmas.Bool.{cases_Bool, cases_lt, not-false}
use Rattle.std.proofs.lemmas.Bool.Decides.{nat_tests}
use Rattle.std.proofs.lemmas.List.{get_or_default, get_or_past, get_or-map, length-map}
use Rattle.std.proofs.lemmas.List.Folds.{list_any_at, list_any_none, Any-from_list_any}
use Rattle.std.proofs.lemmas.List.Sorted.{searched}
use Rattle.link_net.specs.Neighbours.{Neighbours, AreRows, IsNetwork, row, degree, neighbour, weight}
use Rattle.link_net.specs.Simple.{IsSimple, has_link, is_unordered, leads_one_way, one_way_place, one_way_slot, unordered_place, unordered_slot}
use Rattle.link_net.proofs.LentRows.{network_rows}
use Rattle.link_net.proofs.Searches.{none_found, nowhere}

-- a network of a network file is one
pub network_simple : (network : Neighbours) → IsNetwork network → IsSimple network
network_simple network whole =
    let rows : AreRows network = network_rows network whole in
    record { nodes = rows.nodes; degrees = rows.degrees; within = whole.within; apart = whole.apart; rising = whole.rising; both_ways = whole.both_ways }

-- a node with a slot is a node of the network
pub node_of_slot : (network : Neighbours) (u j : ℕ) → j < degree network u → u < length network
node_of_slot network u j slot =
    ⊎_elim (λ a. a) (λ a. (let e : degree network u ≡ 0 = ap length (get_or_past network u [] a) in absurd (omega arith))) (cases_lt u (length network))

-- what is told of a slot that is in order
in_order : (v u b j : ℕ) → (v == u || (nat_lt 0 j && nat_le v b)) ≡ false → (v ≢ u) × (0 < j → b < v)
in_order v u b j h = (λ e. grind (arith, nat_tests), λ low. grind (arith, nat_tests))

module _ (network : Neighbours) (ordered : unordered_place network ≡ None) where
  slot_in_order : (u j : ℕ) → j < degree network u → (neighbour network u j ≢ u) × (0 < j → neighbour network u (j - 1) < neighbour network u j)
  slot_in_order u j slot =
      let node = node_of_slot network u j slot in
      let none = nowhere (unordered_slot network) 0 (length network) ordered u (omega arith) (omega (arith, node)) in
      in_order (neighbour network u j) u (neighbour network u (j - 1)) j (none_found (is_unordered network u) 0 (degree network u) none j (omega arith) (omega (arith, slot)))

  apart : (u j : ℕ) → j < degree network u → neighbour network u j ≢ u
  apart u j slot = (slot_in_order u j slot).0

  step_up : (u i j : ℕ) → i + 1 ≡ j → j < degree network u → neighbour network u i < neighbour network u j
  step_up u i j next slot =
      let back : j - 1 ≡ i = omega arith in
      let up = (slot_in_order u j slot).1 (omega arith) in
      rw back at up

  pub rises : (u i j : ℕ) → i < j → j < degree network u → neighbour network u i < neighbour network u j
  rises u i zero low slot = absurd (omega arith)
  rises u i (suc j) low slot =
      let step : neighbour network u j < neighbour network u (suc j) = step_up u j (suc j) (omega arith) slot in
      elim (cases_Bool (nat_lt i j)) [
        | inl before ↦ let less : i < j = grind (arith, nat_tests) in omega (arith, step, rises u i j less (omega (arith, slot)))
        | inr here ↦ let is : i ≡ j = grind (arith, nat_tests) in rw is step
      ]

-- both tests of a link hold
both_hold : (a b c d : ℕ) → (a == b && c == d) ≡ true → (a ≡ b) × (c ≡ d)
both_hold a b c d h = grind (arith, nat_tests)

abbrev LeadsBack : Neighbours → ℕ → ℕ → ℕ → Type 0
LeadsBack network v u w = (k : ℕ) × (k < degree network v) × (neighbour network v k ≡ u) × (weight network v k ≡ w)

link_there : (network : Neighbours) (v u w : ℕ) → has_link network v u w ≡ true → LeadsBack network v u w
link_there network v u w h =
    let found = Any-from_list_any (λ (a : ℕ × ℕ). a.0 == u && a.1 == w) (row network v) h in
    let same = get_or_default (row network v) found.0 (0, 0) found.1 found.2 ∙ found.3 in
    let is = both_hold found.1.0 u found.1.1 w found.4 in
    (found.0, found.2, ap (λ (a : ℕ × ℕ). a.0) same ∙ is.0, ap (λ (a : ℕ × ℕ). a.1) same ∙ is.1)

-- rows without a fault
pub is_simple : (network : Neighbours) → AreRows network → unordered_place network ≡ None → one_way_place network ≡ None → IsSimple network
is_simple network rows ordered both =
    record {
      nodes = rows.nodes;
      degrees = rows.degrees;
      within = rows.within;
      apart = apart network ordered;
      rising = rises network ordered;
      both_ways = λ u j slot.
          let node = node_of_slot network u j slot in
          let none = nowhere (one_way_slot network) 0 (length network) both u (omega arith) (omega (arith, node)) in
          let back = none_found (leads_one_way network u) 0 (degree network u) none j (omega arith) (omega (arith, slot)) in
          link_there network (neighbour network u j) u (weight network u j) (not-false (has_link network (neighbour network u j) u (weight network u j)) back);
    }

-- a test that fails at one of two
fails_first : (a b c d : ℕ) → a ≢ b → (a == b && c == d) ≡ false
fails_first a b c d h = grind (arith, nat_tests)

abbrev Rises : List (ℕ × ℕ) → Type 0
Rises r = (i j : ℕ) → i < j → j < length r → (get_or r i (0, 0)).0 < (get_or r j (0, 0)).0

firsts : (r : List (ℕ × ℕ)) (k : ℕ) → k < length r → get_or (map (λ a. a.0) r) k 0 ≡ (get_or r k (0, 0)).0
firsts r k low = get_or-map (λ a. a.0) r k (0, 0) 0 low

and_false : (b : Bool) → (b && false) ≡ false
and_false true = refl
and_false false = refl

-- where one neighbour is the node, its weight decides
found_at : (r : List (ℕ × ℕ)) (u w k : ℕ) → Rises r → k < length r → (get_or r k (0, 0)).0 ≡ u → list_any (λ a. a.0 == u && a.1 == w) r ≡ ((get_or r k (0, 0)).1 == w)
found_at r u w k up low is =
    elim (cases_Bool ((get_or r k (0, 0)).1 == w)) [
      | inl same ↦ list_any_at (λ (a : ℕ × ℕ). a.0 == u && a.1 == w) r k (0, 0) low (passes same) ∙ sym same
      | inr other ↦ list_any_none (λ (a : ℕ × ℕ). a.0 == u && a.1 == w) r (λ i d inside. fails other i d inside) ∙ sym other
    ] where
      passes : ((get_or r k (0, 0)).1 == w) ≡ true → ((get_or r k (0, 0)).0 == u && (get_or r k (0, 0)).1 == w) ≡ true
      passes same = rw (is, same) (grind (arith, nat_tests))

      fails : ((get_or r k (0, 0)).1 == w) ≡ false → (i : ℕ) (d : ℕ × ℕ) → i < length r → ((get_or r i d).0 == u && (get_or r i d).1 == w) ≡ false
      fails other i d inside =
          let e = get_or_default r i d (0, 0) inside in
          elim (cases_Bool (nat_lt i k)) [
            | inl before ↦ let less : i < k = grind (arith, nat_tests) in
                let n : (get_or r i (0, 0)).0 ≢ u = λ s. absurd (omega (arith, up i k less low, s, is)) in
                rw e (fails_first (get_or r i (0, 0)).0 u (get_or r i (0, 0)).1 w n)
            | inr past ↦ elim (cases_Bool (nat_lt k i)) [
              | inl after ↦ let less : k < i = grind (arith, nat_tests) in
                  let n : (get_or r i (0, 0)).0 ≢ u = λ s. absurd (omega (arith, up k i less inside, s, is)) in
                  rw e (fails_first (get_or r i (0, 0)).0 u (get_or r i (0, 0)).1 w n)
              | inr same ↦ let here : i ≡ k = grind (arith, nat_tests) in
                  rw (e, here, other) (and_false ((get_or r k (0, 0)).0 == u))
            ]
          ]

-- where none is, there is no link
not_found : (r : List (ℕ × ℕ)) (u w : ℕ) → ((k : ℕ) → k < length r → (get_or r k (0, 0)).0 ≢ u) → list_any (λ a. a.0 == u && a.1 == w) r ≡ false
not_found r u w none =
    list_any_none (λ (a : ℕ × ℕ). a.0 == u && a.1 == w) r
    (λ i d inside. rw (get_or_default r i d (0, 0) inside) (fails_first (get_or r i (0, 0)).0 u (get_or r i (0, 0)).1 w (none i inside)))

climbs : (r : List (ℕ × ℕ)) → Rises r → (i j : ℕ) → i ≤ j → j < length (map (λ a. a.0) r) → get_or (map (λ a. a.0) r) i 0 ≤ get_or (map (λ a. a.0) r) j 0
climbs r up i j low inside =
    let short : j < length r = omega (arith, inside, length-map r (λ (a : ℕ × ℕ). a.0)) in
    elim (cases_Bool (nat_lt i j)) [
      | inl before ↦ let less : i < j = grind (arith, nat_tests) in omega (arith, firsts r i (omega arith), firsts r j short, up i j less short)
      | inr same ↦ let is : i ≡ j = grind (arith, nat_tests) in rw is (omega arith)
    ]

-- the weight at a slot
pub seconds : (r : List (ℕ × ℕ)) (k : ℕ) → get_or (map (λ a. a.1) r) k 0 ≡ (get_or r k (0, 0)).1
seconds [] k = refl
seconds (a ∷ r) zero = refl
seconds (a ∷ r) (suc k) = seconds r k

-- what a search by halves says of a link of node v
pub link_at : (network : Neighbours) (v u w k : ℕ) → unordered_place network ≡ None → IsBinarySearchResult (λ y. nat_cmp y u) (map (λ a. a.0) (row network v)) (Ok k)
    → has_link network v u w ≡ ((get_or (row network v) k (0, 0)).1 == w)
link_at network v u w k ordered h =
    let r = row network v in
    let up : Rises r = rises network ordered v in
    let found = searched (map (λ a. a.0) r) u (Ok k) h (climbs r up) in
    let low : k < length r = omega (arith, found.0, length-map r (λ (a : ℕ × ℕ). a.0)) in
    found_at r u w k up low (sym (firsts r k low) ∙ found.1)

pub no_link : (network : Neighbours) (v u w k : ℕ) → unordered_place network ≡ None → IsBinarySearchResult (λ y. nat_cmp y u) (map (λ a. a.0) (row network v)) (Err k)
    → has_link network v u w ≡ false
no_link network v u w k ordered h =
    let r = row network v in
    let up : Rises r = rises network ordered v in
    let missed = searched (map (λ a. a.0) r) u (Err k) h (climbs r up) in
    not_found r u w (λ i inside.
    let other = firsts r i inside in
    let short : i < length (map (λ (a : ℕ × ℕ). a.0) r) = omega (arith, inside, length-map r (λ (a : ℕ × ℕ). a.0)) in
    elim (cases_Bool (nat_lt i k)) [
      | inl before ↦ let less : i < k = grind (arith, nat_tests) in λ s. absurd (omega (arith, other, s, missed.1 i less))
      | inr past ↦ let more : k ≤ i = grind (arith, nat_tests) in λ s. absurd (omega (arith, other, s, missed.2 i more short))
    ])

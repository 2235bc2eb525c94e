-- Slots in which the first node of a batch stands alone.
use Rattle.std.proofs.Common.{◌≡◌, ◌<◌, ◌≤◌, ◌+◌, ◌-◌, ◌⊎◌, inl, inr, ℕ, zero, suc, List, [], ◌∷◌, length, map, take, drop, refl, ap, sym, ◌∙◌, arith, subst, slice_index, slice_index_or}
use Rattle.std.specs.Global.{Vec}
use Rattle.std.proofs.lemmas.Bool.{cases_lt}
use Rattle.std.proofs.lemmas.List.{length-map, length-take-le, length-drop, get_or-map, get_or-take, get_or-drop}
use Rattle.link_net.specs.Neighbours.{Neighbours, row, degree, neighbour, AreRows}
use Rattle.rounds_code.specs.declared.slot.Slot.{Slot}
use Rattle.rounds_code.specs.Block.{Covers, IsRow}
use Rattle.rounds_blocks.specs.declared.batch.Batch.{Batch}
use Rattle.rounds_blocks.specs.Batches.{IsBatch, AreAlike}
use Rattle.rounds_blocks.specs.Rounds.{HaveWords}
use Rattle.rounds_blocks.proofs.Slots.{degree_at, neighbour_in, weight_in, nodes_covered}
use Rattle.rounds_blocks.proofs.Groups.{IsGroup, group_made, slot_is, slot_long}

-- one of some slots
pub slot_in : (slots : List Slot) (n : ℕ) → n < length slots → Slot
slot_in [] n inside = absurd (omega (arith, inside))
slot_in (x ∷ xs) n inside = x

-- what holds of the first holds of each that is below 1
pub for_first : (P : ℕ → Type 0) → P 0 → (i : ℕ) → i < 1 → P i
for_first P first zero h = first
for_first P first (suc i) h = absurd (omega (arith, h))

-- a part of a list, and what stands in it
part_long : {X : Type 0} (xs : List X) (at behind : ℕ) → at ≤ behind → behind ≤ length xs → length (take (behind - at) (drop at xs)) ≡ behind - at
part_long xs at behind low high = length-take-le (behind - at) (drop at xs) (omega (arith, length-drop at xs, low, high))

part_at : {X : Type 0} (xs : List X) (at behind k : ℕ) (d : X) → k < behind - at → slice_index_or (take (behind - at) (drop at xs)) k d ≡ slice_index_or xs (at + k) d
part_at xs at behind k d inside = get_or-take (behind - at) (drop at xs) k d inside ∙ get_or-drop at xs k d

module _ (network : Neighbours) (batch : Batch) (whole : IsBatch network batch) where
  -- in the slot after the second node's last one no node but the first has a neighbour
  few_behind : (j : ℕ) (d : Slot) → j ≡ slice_index batch.degrees.items 1 → j < length batch.slots.items
      → ((1 < length (slice_index_or batch.slots.items j d).neighbours) ⊎ (length (slice_index_or batch.slots.items j d).neighbours ≤ 1)) → length (slice_index_or batch.slots.items j d).neighbours ≤ 1
  few_behind j d second there (inr h) = h
  few_behind j d second there (inl h) =
      let slot = whole.slots j d there in
      absurd (omega (arith, slot.have 1 h, second, degree_at network batch.nodes batch.degrees.items 1 whole.degrees (omega (arith, h, slot.few))))

  -- from it on others have none
  pub others_end : (j : ℕ) → j ≡ slice_index batch.degrees.items 1 → j < length batch.slots.items → (i : ℕ) → 1 ≤ i → i < length batch.nodes → degree network (slice_index batch.nodes i) ≤ j
  others_end j second there i late inside =
      let d = slot_in batch.slots.items j there in
      (whole.slots j d there).lack i (omega (arith, late, few_behind j d second there (cases_lt 1 (length (slice_index_or batch.slots.items j d).neighbours)))) inside

  module _ (at behind : ℕ) (some : 0 < length batch.nodes) (others : (i : ℕ) → 1 ≤ i → i < length batch.nodes → degree network (slice_index batch.nodes i) ≤ at)
      (low : at < behind) (far : behind ≤ degree network (slice_index batch.nodes 0)) where
    pub in_slots : behind ≤ length batch.slots.items
    in_slots = omega (arith, far, whole.whole 0 0 some)

    at_least_one : (j : ℕ) (d : Slot) → j < behind → ((0 < length (slice_index_or batch.slots.items j d).neighbours) ⊎ (length (slice_index_or batch.slots.items j d).neighbours ≤ 0))
        → 0 < length (slice_index_or batch.slots.items j d).neighbours
    at_least_one j d high (inl h) = h
    at_least_one j d high (inr h) = absurd (omega (arith, (whole.slots j d (omega (arith, high, in_slots))).lack 0 h some, high, far))

    at_most_one : (j : ℕ) (d : Slot) → at ≤ j → j < behind → ((1 < length (slice_index_or batch.slots.items j d).neighbours) ⊎ (length (slice_index_or batch.slots.items j d).neighbours ≤ 1))
        → length (slice_index_or batch.slots.items j d).neighbours ≤ 1
    at_most_one j d late high (inr h) = h
    at_most_one j d late high (inl h) =
        let slot = whole.slots j d (omega (arith, high, in_slots)) in
        absurd (omega (arith, slot.have 1 h, others 1 (omega arith) (omega (arith, h, slot.few)), late))

    alone : AreAlike batch.slots.items at behind 1
    alone j d late high =
        let n = length (slice_index_or batch.slots.items j d).neighbours in
        omega (arith, at_least_one j d high (cases_lt 0 n), at_most_one j d late high (cases_lt 1 n))

    abbrev part : List Slot
    part = take (behind - at) (drop at batch.slots.items)

    -- the slots are a group of one neighbour each
    pub alone_group : IsGroup network batch at behind 1 part
    alone_group = group_made network batch at behind 1 batch.slots.items batch.slots.items whole refl refl low in_slots alone

    -- in which the first node's neighbours stand
    pub alone_row : (neighbours weights : List ℕ) → neighbours ≡ map (λ a. a.0) (row network (slice_index batch.nodes 0)) → weights ≡ map (λ a. a.1) (row network (slice_index batch.nodes 0))
        → IsRow (take (behind - at) (drop at neighbours)) (take (behind - at) (drop at weights)) part
    alone_row neighbours weights near_are weights_are =
        let u = slice_index batch.nodes 0 in
        let long : length neighbours ≡ degree network u = ap length near_are ∙ length-map (row network u) (λ a. a.0) in
        let many : length part ≡ behind - at = part_long batch.slots.items at behind (omega (arith, low)) in_slots in
        record {
          many = many ∙ sym (part_long neighbours at behind (omega (arith, low)) (omega (arith, far, long)));
          near = λ s d h.
              let slot = slice_index_or part s d in
              let place : 0 < length slot.neighbours = omega (arith, slot_long network batch at behind 1 part alone_group s d h) in
              neighbour_in network batch.nodes (at + s) slot 0 0 (slot_is network batch at behind 1 part alone_group s d h) place
              ∙ sym (part_at neighbours at behind s 0 (omega (arith, h, many)) ∙ ap (λ xs. slice_index xs (at + s)) near_are
              ∙ get_or-map (λ a. a.0) (row network u) (at + s) (0, 0) 0 (omega (arith, h, many, far)));
          weight = λ s d h.
              let slot = slice_index_or part s d in
              let place : 0 < length slot.neighbours = omega (arith, slot_long network batch at behind 1 part alone_group s d h) in
              weight_in network batch.nodes (at + s) slot 0 0 (slot_is network batch at behind 1 part alone_group s d h) place
              ∙ sym (part_at weights at behind s 0 (omega (arith, h, many)) ∙ ap (λ xs. slice_index xs (at + s)) weights_are
              ∙ get_or-map (λ a. a.1) (row network u) (at + s) (0, 0) 0 (omega (arith, h, many, far)));
        }

    -- and are places of columns
    pub alone_within : (neighbours : List ℕ) (from : List (Vec ℕ)) → neighbours ≡ map (λ a. a.0) (row network (slice_index batch.nodes 0)) → AreRows network → HaveWords (length network) from
        → Covers from (take (behind - at) (drop at neighbours))
    alone_within neighbours from near_are rows have =
        let u = slice_index batch.nodes 0 in
        let long : length neighbours ≡ degree network u = ap length near_are ∙ length-map (row network u) (λ a. a.0) in
        let many = part_long neighbours at behind (omega (arith, low)) (omega (arith, far, long)) in
        nodes_covered (length network) from (take (behind - at) (drop at neighbours)) have (λ k d h.
        let inner : k < behind - at = omega (arith, h, many) in
        let there : at + k < degree network u = omega (arith, inner, far) in
        let is : slice_index_or (take (behind - at) (drop at neighbours)) k d ≡ neighbour network u (at + k) =
        part_at neighbours at behind k d inner ∙ ap (λ xs. slice_index_or xs (at + k) d) near_are ∙ get_or-map (λ a. a.0) (row network u) (at + k) (0, 0) d there in
        subst (λ w. w < length network) (sym is) (rows.within u (at + k) there))

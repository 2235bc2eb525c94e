-- The batches in which nodes stand.
use Rattle.std.proofs.Common.{◌≡◌, ◌<◌, ◌+◌, ◌-◌, ◌⊎◌, inl, inr, ℕ, List, [], ◌∷◌, ◌++◌, ◌≤◌, length, take, All, refl, sym, ap, ◌∙◌, subst, arith, slice_index, slice_index_or}
use Rattle.std.specs.Global.{Vec}
use Rattle.std.specs.List.{Contains}
use Rattle.std.proofs.Math.ListN.{get_or-append}
use Rattle.std.proofs.lemmas.List.{get_or_default, get_or-append_right}
use Rattle.std.proofs.lemmas.List.Elements.{All-append, Contains-get_or}
use Rattle.link_net.specs.Neighbours.{Neighbours, degree, neighbour, AreRows}
use Rattle.rounds_code.specs.declared.slot.Slot.{Slot}
use Rattle.rounds_blocks.specs.declared.batch.Batch.{Batch}
use Rattle.rounds_blocks.specs.declared.near.Near.{Near}
use Rattle.rounds_blocks.specs.declared.near.Near.TheVariants as nears
use Rattle.rounds_blocks.specs.Batches.{IsBatch, IsSlot, nodes_of}
use Rattle.rounds_blocks.specs.Nears.{IsStamped, IsNear, StandsIn, AreHomes, IsAmong, AreNear}
use Rattle.rounds_blocks.proofs.Slots.{neighbour_in}
use Rattle.rounds_blocks.proofs.Steps.{nodes_so_far}
use Rattle.std.proofs.lemmas.Bool.{cases_lt}

module _ (batches : List Batch) (n : ℕ) (batch : Batch) (old new : List ℕ) (inside : n < length batches) (is : batch ≡ slice_index_or batches n batch)
    (others : (u : ℕ) → (slice_index new u ≡ slice_index old u) ⊎ ((slice_index new u ≡ n) × Contains batch.nodes u))
    (here : All (λ u. slice_index new u ≡ n) batch.nodes)
    (before : All (λ u. StandsIn batches u (slice_index old u)) (nodes_of (take n batches))) where
  stands_here : (u : ℕ) → Contains batch.nodes u → StandsIn batches u n
  stands_here u has = record {
    there = inside;
    stands = λ d. subst (λ (b : Batch). Contains b.nodes u) (is ∙ get_or_default batches n batch d inside) has;
  }

  stands_still : (u : ℕ) → StandsIn batches u (slice_index old u) → ((slice_index new u ≡ slice_index old u) ⊎ ((slice_index new u ≡ n) × Contains batch.nodes u)) → StandsIn batches u (slice_index new u)
  stands_still u stands (inl same) = subst (StandsIn batches u) (sym same) stands
  stands_still u stands (inr now) = subst (StandsIn batches u) (sym now.0) (stands_here u now.1)

  -- the nodes of one batch more have their homes
  pub homes_more : All (λ u. StandsIn batches u (slice_index new u)) (nodes_of (take (n + 1) batches))
  homes_more =
      let P = λ (u : ℕ). StandsIn batches u (slice_index new u) in
      let first = nodes_of (take n batches) in
      subst (All P) (sym (nodes_so_far batches n batch inside is))
      (All-append P first batch.nodes
      (λ k d h. stands_still (slice_index_or first k d) (before k d h) (others (slice_index_or first k d)))
      (λ k d h. subst (StandsIn batches (slice_index_or batch.nodes k d)) (sym (here k d h)) (stands_here (slice_index_or batch.nodes k d) (Contains-get_or batch.nodes k d h))))

some_slot : (slots : List Slot) (j : ℕ) → j < length slots → Slot
some_slot [] j inside = absurd (omega (arith, inside))
some_slot (x ∷ xs) j inside = x

place_in : (network : Neighbours) (nodes : List ℕ) (j : ℕ) (slot : Slot) (i : ℕ) → IsSlot network nodes j slot → i < length nodes → j < degree network (slice_index nodes i)
    → ((i < length slot.neighbours) ⊎ (length slot.neighbours ≤ i)) → i < length slot.neighbours
place_in network nodes j slot i is inside has (inl h) = h
place_in network nodes j slot i is inside has (inr h) = absurd (omega (arith, is.lack i h inside, has))

module _ (network : Neighbours) (batches : List Batch) (batch : Batch) (homes : List ℕ) (whole : AreRows network) (made : IsBatch network batch)
    (homes_are : AreHomes batches (length network) homes) where
  among : (near : Near) (u : ℕ) → u < length network → IsNear near (slice_index homes u) → IsAmong batches near u
  among near u inside listed = record {
    home = slice_index homes u;
    listed = listed;
    stands = homes_are u inside;
  }

  -- what is near by the home of each node of the batch, and of each neighbour
  near_by : (near : Near) → All (λ u. IsNear near (slice_index homes u)) batch.nodes
      → ((i j d : ℕ) → i < length batch.nodes → j < degree network (slice_index batch.nodes i) → (low : j < length batch.slots.items) → IsNear near (slice_index homes (neighbour network (slice_index batch.nodes i) j)))
      → AreNear network batches batch near
  near_by near own others = record {
    own = λ k d h. among near (slice_index_or batch.nodes k d) (made.within k d h) (own k d h);
    neighbours = λ k d h j has.
        let same : slice_index_or batch.nodes k d ≡ slice_index batch.nodes k = get_or_default batch.nodes k d 0 h in
        let low : j < length batch.slots.items = omega (arith, made.whole k d h, has) in
        let here : j < degree network (slice_index batch.nodes k) = omega (arith, has, ap (degree network) same) in
        subst (λ (u : ℕ). IsAmong batches near (neighbour network u j)) (sym same)
        (among near (neighbour network (slice_index batch.nodes k) j) (whole.within (slice_index batch.nodes k) j here) (others k j d h here low));
  }

  -- any batch may be near
  pub any_near : AreNear network batches batch nears.Any
  any_near = near_by nears.Any (λ k d h. tt) (λ i j d h has low. tt)

  module _ (places : Vec ℕ) (stamps : List ℕ) (stamp : ℕ) (listed : (i : ℕ) → IsStamped stamps stamp i → Contains places.items i)
      (own : All (λ u. IsStamped stamps stamp (slice_index homes u)) batch.nodes)
      (slots : (j : ℕ) (d : Slot) → j < length batch.slots.items → All (λ u. IsStamped stamps stamp (slice_index homes u)) (slice_index_or batch.slots.items j d).neighbours) where
    -- the node at this place has a neighbour in the slot
    stamped_near : (i j d : ℕ) → i < length batch.nodes → j < degree network (slice_index batch.nodes i) → (low : j < length batch.slots.items) → IsStamped stamps stamp (slice_index homes (neighbour network (slice_index batch.nodes i) j))
    stamped_near i j d inside has low =
        let e = some_slot batch.slots.items j low in
        let slot = slice_index_or batch.slots.items j e in
        let slot_is = made.slots j e low in
        let place : i < length slot.neighbours = place_in network batch.nodes j slot i slot_is inside has (cases_lt i (length slot.neighbours)) in
        subst (λ (w : ℕ). IsStamped stamps stamp (slice_index homes w)) (neighbour_in network batch.nodes j slot i d slot_is place) (slots j e low i d place)

    -- the stamped batches are near
    pub near_made : AreNear network batches batch (nears.Listed places)
    near_made = near_by (nears.Listed places) (λ k d h. listed (slice_index homes (slice_index_or batch.nodes k d)) (own k d h))
        (λ i j d h has low. listed (slice_index homes (neighbour network (slice_index batch.nodes i) j)) (stamped_near i j d h has low))

module _ (network : Neighbours) (batches : List Batch) (old new : List Near) (near : Near) (batch : Batch) (n : ℕ) (are : new ≡ old ++ near ∷ []) (count : length old ≡ n)
    (inside : n < length batches) (is : batch ≡ slice_index_or batches n batch)
    (before : (i : ℕ) (d : Batch) (e : Near) → i < n → AreNear network batches (slice_index_or batches i d) (slice_index_or old i e))
    (here : AreNear network batches batch near) where
  last_near : (e : Near) → slice_index_or new n e ≡ near
  last_near e =
      let first : length old ≡ n = count in
      let none_left : n - length old ≡ 0 = omega arith in
      ap (λ (xs : List Near). slice_index_or xs n e) are
      ∙ get_or-append_right old (near ∷ []) (length old) n e refl (omega arith)
      ∙ ap (λ (i : ℕ). slice_index_or (near ∷ []) i e) none_left

  near_at : (i : ℕ) (d : Batch) (e : Near) → i < n + 1 → ((i < n) ⊎ (n ≤ i)) → AreNear network batches (slice_index_or batches i d) (slice_index_or new i e)
  near_at i d e high (inl h) =
      let low : i < length old = omega (arith, h, count) in
      subst (AreNear network batches (slice_index_or batches i d))
      (sym (ap (λ (xs : List Near). slice_index_or xs i e) are ∙ get_or-append old (near ∷ []) e i low)) (before i d e h)
  near_at i d e high (inr h) =
      let same : n ≡ i = omega (arith, h, high) in
      subst (λ (j : ℕ). AreNear network batches (slice_index_or batches j d) (slice_index_or new j e)) same
      (subst (AreNear network batches (slice_index_or batches n d)) (sym (last_near e))
      (subst (λ (b : Batch). AreNear network batches b near) (is ∙ get_or_default batches n batch d inside) here))

  -- those near one batch more
  pub nears_more : (i : ℕ) (d : Batch) (e : Near) → i < n + 1 → AreNear network batches (slice_index_or batches i d) (slice_index_or new i e)
  nears_more i d e high = near_at i d e high (cases_lt i n)

-- The slots of batches.
use Rattle.std.proofs.Common.{◌≡◌, ◌<◌, ◌≤◌, ℕ, List, length, map, take, All, sym, ap, ◌∙◌, arith, subst, slice_index, slice_index_or}
use Rattle.std.specs.Prelude.{IfSome}
use Rattle.std.specs.Global.{Vec}
use Rattle.std.proofs.lemmas.List.{length-map, length-take-le, get_or-map, get_or-take, get_or_default}
use Rattle.link_net.specs.Neighbours.{Neighbours, degree, neighbour, weight, AreRows}
use Rattle.rounds_code.specs.Block.{Covers}
use Rattle.rounds_code.specs.declared.slot.Slot.{Slot}
use Rattle.rounds_blocks.specs.declared.batch.Batch.{Batch}
use Rattle.rounds_blocks.specs.Batches.{AreFalling, HaveWindows, IsSlot, IsBatch}
use Rattle.rounds_blocks.specs.Rounds.{HaveWords}

pub degree_at : (network : Neighbours) (nodes degrees : List ℕ) (i : ℕ) → degrees ≡ map (degree network) nodes → i < length nodes → slice_index degrees i ≡ degree network (slice_index nodes i)
degree_at network nodes degrees i are inside = ap (λ ds. slice_index ds i) are ∙ get_or-map (degree network) nodes i 0 0 inside

as_many : (network : Neighbours) (nodes degrees : List ℕ) → degrees ≡ map (degree network) nodes → length degrees ≡ length nodes
as_many network nodes degrees are = ap length are ∙ length-map nodes (degree network)

-- the degrees of falling nodes fall
pub falling_degrees : (network : Neighbours) (nodes degrees : List ℕ) → degrees ≡ map (degree network) nodes → AreFalling network nodes → (i j : ℕ) → i ≤ j → j < length degrees → slice_index degrees j ≤ slice_index degrees i
falling_degrees network nodes degrees are falling i j le inside =
    let second : j < length nodes = omega (arith, inside, as_many network nodes degrees are) in
    let first : i < length nodes = omega (arith, le, second) in
    omega (arith, falling i j le second, degree_at network nodes degrees i are first, degree_at network nodes degrees j are second)

-- a slot as it is made
pub made_slot : (network : Neighbours) (nodes degrees : List ℕ) (j count : ℕ) (slot : Slot) → degrees ≡ map (degree network) nodes → count ≤ length degrees
    → ((i : ℕ) → i < count → j < slice_index degrees i) → ((i : ℕ) → count ≤ i → i < length degrees → slice_index degrees i ≤ j)
    → slot.neighbours ≡ map (λ u. neighbour network u j) (take count nodes) → slot.weights ≡ map (λ u. weight network u j) (take count nodes)
    → IsSlot network nodes j slot
made_slot network nodes degrees j count slot are fits have lack neighbours weights =
    let many = as_many network nodes degrees are in
    let long : length slot.neighbours ≡ count = ap length neighbours ∙ length-map (take count nodes) (λ u. neighbour network u j) ∙ length-take-le count nodes (omega (arith, fits, many)) in
    record {
      few = omega (arith, long, fits, many);
      neighbours = neighbours ∙ ap (λ n. map (λ u. neighbour network u j) (take n nodes)) (sym long);
      weights = weights ∙ ap (λ n. map (λ u. weight network u j) (take n nodes)) (sym long);
      have = λ i h. omega (arith, have i (omega (arith, h, long)), degree_at network nodes degrees i are (omega (arith, h, long, fits, many)));
      lack = λ i low high. omega (arith, lack i (omega (arith, low, long)) (omega (arith, high, many)), degree_at network nodes degrees i are high);
    }

-- a batch as it is made
pub made_batch : (network : Neighbours) (nodes : List ℕ) (batch : Batch) → batch.nodes ≡ nodes → length nodes ≤ 256 → All (λ u. u < length network) nodes → AreFalling network nodes
    → batch.degrees.items ≡ map (degree network) nodes → ((j : ℕ) (d : Slot) → j < length batch.slots.items → IsSlot network nodes j (slice_index_or batch.slots.items j d))
    → slice_index batch.degrees.items 0 ≡ length batch.slots.items → IfSome batch.windows (HaveWindows (length network) batch.slots.items) → IsBatch network batch
made_batch network nodes batch same few within falling degrees slots most windows =
    record {
      few = subst (λ ns. length ns ≤ 256) (sym same) few;
      within = subst (All (λ u. u < length network)) (sym same) within;
      degrees = degrees ∙ ap (map (degree network)) (sym same);
      slots = λ j d h. subst (λ ns. IsSlot network ns j (slice_index_or batch.slots.items j d)) (sym same) (slots j d h);
      whole = subst (All (λ u. degree network u ≤ length batch.slots.items)) (sym same) (λ i d h.
          let fact = falling 0 i (omega arith) h in
          let first = degree_at network nodes batch.degrees.items 0 degrees (omega (arith, h)) in
          let here = ap (degree network) (get_or_default nodes i d 0 h) in
          omega (arith, fact, first, most, here));
      windows = windows;
    }

-- the neighbour of a lane
pub neighbour_in : (network : Neighbours) (nodes : List ℕ) (j : ℕ) (slot : Slot) (i d : ℕ) → IsSlot network nodes j slot → i < length slot.neighbours → slice_index_or slot.neighbours i d ≡ neighbour network (slice_index nodes i) j
neighbour_in network nodes j slot i d is inside =
    let n = length slot.neighbours in
    let place : i < length (take n nodes) = omega (arith, inside, length-take-le n nodes is.few) in
    ap (λ ns. slice_index_or ns i d) is.neighbours
    ∙ get_or-map (λ u. neighbour network u j) (take n nodes) i 0 d place
    ∙ ap (λ u. neighbour network u j) (get_or-take n nodes i 0 inside)

-- the weight of a lane
pub weight_in : (network : Neighbours) (nodes : List ℕ) (j : ℕ) (slot : Slot) (i d : ℕ) → IsSlot network nodes j slot → i < length slot.neighbours → slice_index_or slot.weights i d ≡ weight network (slice_index nodes i) j
weight_in network nodes j slot i d is inside =
    let n = length slot.neighbours in
    let place : i < length (take n nodes) = omega (arith, inside, length-take-le n nodes is.few) in
    ap (λ ns. slice_index_or ns i d) is.weights
    ∙ get_or-map (λ u. weight network u j) (take n nodes) i 0 d place
    ∙ ap (λ u. weight network u j) (get_or-take n nodes i 0 inside)

-- the neighbours in a slot are nodes
pub slot_within : (network : Neighbours) (nodes : List ℕ) (j : ℕ) (slot : Slot) → AreRows network → IsSlot network nodes j slot → All (λ w. w < length network) slot.neighbours
slot_within network nodes j slot whole is i d inside =
    omega (arith, whole.within (slice_index nodes i) j (is.have i inside), neighbour_in network nodes j slot i d is inside)

-- nodes are places of columns
pub nodes_covered : (n : ℕ) (columns : List (Vec ℕ)) (places : List ℕ) → HaveWords n columns → All (λ w. w < n) places → Covers columns places
nodes_covered n columns places have within k e h i d inside = omega (arith, within i d inside, have k e h)

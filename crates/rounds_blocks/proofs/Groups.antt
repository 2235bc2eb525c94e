-- Groups of slots that are alike.
use Rattle.std.specs.Prelude.{IfSome, Option, Some}
use Rattle.std.proofs.Common.{◌≡◌, ◌<◌, ◌≤◌, ◌+◌, ◌-◌, ◌++◌, ℕ, List, length, map, take, drop, All, refl, sym, ap, ◌∙◌, arith, subst, slice_index, slice_index_or}
use Rattle.std.specs.Global.{Vec}
use Rattle.std.proofs.lemmas.List.{same_lists, length-map, length-take-le, length-drop, get_or-map, get_or-take, get_or-drop, take-append-drop, take-take, drop-take}
use Rattle.rule_check.specs.declared.state.Near.{Near}
use Rattle.link_net.specs.Neighbours.{Neighbours, row, degree, neighbour, AreRows}
use Rattle.rounds_code.specs.declared.windows.Windows.{Windows}
use Rattle.rounds_code.specs.Windows.{AreWindows}
use Rattle.rounds_code.specs.declared.slot.Slot.{Slot}
use Rattle.rounds_code.specs.Block.{Covers, state_at, near_in, near_at as column_near}
use Rattle.rounds_blocks.specs.declared.batch.Batch.{Batch}
use Rattle.rounds_blocks.specs.Batches.{IsSlot, IsBatch, AreAlike, HaveWindows}
use Rattle.rounds_blocks.specs.Rounds.{HaveWords, near_at, nears_in}
use Rattle.rounds_blocks.proofs.Slots.{neighbour_in, weight_in, slot_within, nodes_covered}
use Rattle.rounds_blocks.proofs.Sums.{nears_count}

-- slots of a batch, from one place on to the one before another, which have so many neighbours each
pub record IsGroup (network : Neighbours) (batch : Batch) (at behind count : ℕ) (group : List Slot) : Type 0 where
  pub whole : IsBatch network batch
  pub some : at < behind
  pub inside : behind ≤ length batch.slots.items
  pub alike : AreAlike batch.slots.items at behind count
  pub many : at + length group ≡ behind
  pub are : (k : ℕ) (d : Slot) → k < length group → slice_index_or group k d ≡ slice_index_or batch.slots.items (at + k) d

-- a part of the slots is such a group
pub group_made : (network : Neighbours) (batch : Batch) (at behind count : ℕ) (all slots : List Slot) → IsBatch network batch → all ≡ batch.slots.items → slots ≡ batch.slots.items
    → at < behind → behind ≤ length all → AreAlike all at behind count → IsGroup network batch at behind count (take (behind - at) (drop at slots))
group_made network batch at behind count all slots whole all_are slots_are some inside alike =
    let n = behind - at in
    let few : behind ≤ length batch.slots.items = omega (arith, inside, ap length all_are) in
    let long : length (take n (drop at slots)) ≡ n = length-take-le n (drop at slots) (omega (arith, length-drop at slots, few, ap length slots_are)) in
    record {
      whole = whole;
      some = some;
      inside = few;
      alike = subst (λ (xs : List Slot). AreAlike xs at behind count) all_are alike;
      many = omega (arith, long, some);
      are = λ k d h. get_or-take n (drop at slots) k d (omega (arith, h, long)) ∙ get_or-drop at slots k d ∙ ap (λ (xs : List Slot). slice_index_or xs (at + k) d) slots_are;
    }

-- the first elements and some more
more_taken : {X : Type 0} (xs : List X) (m n : ℕ) → take m xs ++ take n (drop m xs) ≡ take (m + n) xs
more_taken {X} xs m n =
    ap (λ (ys : List X). ys ++ take n (drop m xs)) (sym (take-take m (m + n) xs (omega arith)))
    ∙ ap (λ (ys : List X). take m (take (m + n) xs) ++ ys) (sym (drop-take m n xs))
    ∙ take-append-drop m (take (m + n) xs)

module _ (network : Neighbours) (batch : Batch) (at behind count : ℕ) (group : List Slot) (is : IsGroup network batch at behind count group) where
  pub slot_is : (k : ℕ) (d : Slot) → k < length group → IsSlot network batch.nodes (at + k) (slice_index_or group k d)
  slot_is k d h = subst (IsSlot network batch.nodes (at + k)) (sym (is.are k d h)) (is.whole.slots (at + k) d (omega (arith, h, is.many, is.inside)))

  pub slot_long : (k : ℕ) (d : Slot) → k < length group → length (slice_index_or group k d).neighbours ≡ count
  slot_long k d h = ap (λ (s : Slot). length s.neighbours) (is.are k d h) ∙ is.alike (at + k) d (omega arith) (omega (arith, h, is.many))

  -- their neighbours are places of columns
  pub group_within : (from : List (Vec ℕ)) → AreRows network → HaveWords (length network) from → All (λ slot. Covers from slot.neighbours) group
  group_within from whole long k d h =
      let slot = slice_index_or group k d in
      nodes_covered (length network) from slot.neighbours long (slot_within network batch.nodes (at + k) slot whole (slot_is k d h))

  module _ (none : Slot) (i : ℕ) where
    has_one : (k : ℕ) → k < length group → i < count → at + k < degree network (slice_index batch.nodes i)
    has_one k h low = (slot_is k none h).have i (omega (arith, low, slot_long k none h))

    -- each of the first nodes has a neighbour in all of them
    pub has_all : i < count → behind ≤ degree network (slice_index batch.nodes i)
    has_all low = omega (arith, has_one (length group - 1) (omega (arith, is.some, is.many)) low, is.many, is.some)

    -- and any other one has none there
    pub has_none : count ≤ i → i < length batch.nodes → degree network (slice_index batch.nodes i) ≤ at
    has_none high place =
        let first : 0 < length group = omega (arith, is.some, is.many) in
        omega (arith, (slot_is 0 none first).lack i (omega (arith, high, slot_long 0 none first)) place)

    near_here : (from : List (Vec ℕ)) (k : ℕ) (d : Near) → i < count → k < length group
        → slice_index_or (map (near_in from i) group) k d ≡ slice_index_or (nears_in network (state_at from) (slice_index batch.nodes i)) (at + k) d
    near_here from k d low h =
        let u = slice_index batch.nodes i in
        let nodes = batch.nodes in
        let slot = slice_index_or group k none in
        let slot_here = slot_is k none h in
        let place : i < length slot.neighbours = omega (arith, low, slot_long k none h) in
        get_or-map (near_in from i) group k none d h
        ∙ ap (λ (w : ℕ). column_near from w (slice_index slot.weights i)) (neighbour_in network nodes (at + k) slot i 0 slot_here place)
        ∙ ap (λ (x : ℕ). column_near from (neighbour network u (at + k)) x) (weight_in network nodes (at + k) slot i 0 slot_here place)
        ∙ sym (get_or-map (near_at (state_at from)) (row network u) (at + k) (0, 0) d (has_one k h low))

    -- what such a node has in them follows on its neighbours in the slots before
    pub nears_next : (from : List (Vec ℕ)) → i < count
        → take at (nears_in network (state_at from) (slice_index batch.nodes i)) ++ map (near_in from i) group ≡ take behind (nears_in network (state_at from) (slice_index batch.nodes i))
    nears_next from low =
        let u = slice_index batch.nodes i in
        let nears = nears_in network (state_at from) u in
        let n = length group in
        let far : behind ≤ length nears = omega (arith, has_all low, nears_count network (state_at from) u) in
        let long : length (take n (drop at nears)) ≡ n = length-take-le n (drop at nears) (omega (arith, length-drop at nears, far, is.many)) in
        let next : map (near_in from i) group ≡ take n (drop at nears) =
        same_lists (map (near_in from i) group) (take n (drop at nears)) (length-map group (near_in from i) ∙ sym long)
        (λ k d h.
        let inner : k < n = omega (arith, h, length-map group (near_in from i)) in
        near_here from k d low inner ∙ sym (get_or-take n (drop at nears) k d inner ∙ get_or-drop at nears k d)) in
        ap (λ (ns : List Near). take at nears ++ ns) next ∙ more_taken nears at n ∙ ap (λ (m : ℕ). take m nears) is.many

-- the windows of a batch
pub windows_here : (network : Neighbours) (batch : Batch) (windows : Windows) → IsBatch network batch → batch.windows ≡ Some windows → HaveWindows (length network) batch.slots.items windows
windows_here network batch windows whole here = subst (λ (found : Option Windows). IfSome found (HaveWindows (length network) batch.slots.items)) here whole.windows

-- the first slots, which have them, are such a group
pub windows_group : (network : Neighbours) (batch : Batch) (windows : Windows) (slots : List Slot) (n : ℕ) → IsBatch network batch → HaveWindows (length network) batch.slots.items windows
    → n ≡ length windows.places.items → slots ≡ batch.slots.items → IsGroup network batch 0 n windows.count (take n slots)
windows_group network batch windows slots n whole have n_is slots_are =
    let all : n - 0 ≡ n = omega arith in
    let few : n ≤ length batch.slots.items = omega (arith, n_is, have.inside) in
    let are : AreWindows (take n batch.slots.items) (length network) windows = subst (λ k. AreWindows (take k batch.slots.items) (length network) windows) (sym n_is) have.are in
    subst (λ k. IsGroup network batch 0 n windows.count (take k slots)) all
    (group_made network batch 0 n windows.count batch.slots.items slots whole refl slots_are (omega (arith, n_is, have.some)) few
    (λ j d late low. ap (λ (s : Slot). length s.neighbours) (sym (get_or-take n batch.slots.items j d low)) ∙ are.alike j d (omega (arith, low, length-take-le n batch.slots.items few))))

-- and their windows stay the same
pub windows_are : (network : Neighbours) (batch : Batch) (windows : Windows) (slots : List Slot) (n : ℕ) → HaveWindows (length network) batch.slots.items windows
    → n ≡ length windows.places.items → slots ≡ batch.slots.items → AreWindows (take n slots) (length network) windows
windows_are network batch windows slots n have n_is slots_are =
    subst (λ (xs : List Slot). AreWindows (take n xs) (length network) windows) (sym slots_are) (subst (λ k. AreWindows (take k batch.slots.items) (length network) windows) (sym n_is) have.are)

use Rattle.std.proofs.Common.{◌≡◌, ◌<◌, ◌∙◌, ℕ, All, ap, sym, subst, arith, length, slice_index_or}
use Rattle.rounds_blocks.specs.Batches.{IsSlot}
use Rattle.rounds_blocks.proofs.Slots.{slot_within}
use Rattle.rounds_blocks.proofs.near.list_batch.Goals as goal

pub list_homes-requires-in-loop-slot-clause-within_homes :
    goal.list_homes-requires-in-loop-slot-clause-within_homes
list_homes-requires-in-loop-slot-clause-within_homes c =
    let batch = c.args.batch.now in
    let network = c.args.network.now in
    let j = c.loop-slot.slot-index in
    let slot = c.slot-item.result in
    let are = c.deref-slot-items.ensures.value in
    let here : j < length batch.slots.items = omega (arith, c.loop-slot-test.true, ap length are) in
    let same : slice_index_or batch.slots.items j slot ≡ slot = ap (λ xs. slice_index_or xs j slot) (sym are) ∙ sym c.slot-item.is in
    let is : IsSlot network batch.nodes j slot = subst (IsSlot network batch.nodes j) same (c.requires.batch.slots j slot here) in
    let within = slot_within network batch.nodes j slot c.requires.network is in
    subst (All (λ w. w < length c.args.homes.now)) (sym c.as_slice-in-loop-slot.ensures.exact)
    (subst (λ (n : ℕ). All (λ w. w < n) slot.neighbours) (sym c.requires.count) within)

use Rattle.std.proofs.Common.{◌≡◌, ◌∙◌, ap, length, arith, slice_index}
use Rattle.std.proofs.Common.{List, subst}
use Rattle.std.specs.Prelude.{IfSome}
use Rattle.rounds_code.specs.declared.slot.Slot.{Slot}
use Rattle.rounds_blocks.specs.Batches.{HaveWindows}
use Rattle.rounds_blocks.proofs.Slots.{made_batch}
use Rattle.rounds_blocks.proofs.batch.batch_of.Goals as goal

pub returns-clause-whole : goal.returns-clause-whole
returns-clause-whole c =
    let most : slice_index c.in_ok-degrees.degrees.items 0 ≡ length c.loop-slot.slots.items =
    omega (arith, ap (λ ds. slice_index ds 0) c.deref.ensures.value, c.most_of-most.ensures.exact, c.loop-slot.invariant.count, c.loop-slot.auto.slot-end, c.loop-slot-test.false) in
    made_batch c.args.network.now c.args.nodes.now (record { nodes = c.in_ok-nodes.nodes; degrees = c.in_ok-degrees.degrees; slots = c.loop-slot.slots; windows = c.in_ok-windows.windows; ends = c.sum_of-ends.result })
    (c.in_ok-nodes.ensures.exact ∙ c.in_ok-to_vec.ensures.items_if_clones_equal (λ x y e. e)) c.requires.few c.requires.within c.requires.falling c.in_ok-degrees.ensures.exact
    (λ j d h. c.loop-slot.invariant.made j d (omega (arith, h, c.loop-slot.invariant.count))) most
    (subst (λ (slots : List Slot). IfSome c.in_ok-windows.windows (HaveWindows (length c.args.network.now) slots)) c.deref-3.ensures.value
    (subst (λ n. IfSome c.in_ok-windows.windows (HaveWindows n c.deref-3.result.now)) c.nodes.ensures.count c.in_ok-windows.ensures.windows))

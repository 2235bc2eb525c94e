use Rattle.std.proofs.Common.{◌≡◌, ◌++◌, ◌∷◌, [], ap, ◌∙◌, map, append_assoc, append-nil, sym, arith}
use Rattle.std.specs.List.{range_with_len}
use Rattle.link_net.specs.Neighbours.{degree}
use Rattle.unison_world.specs.declared.step.Step.TheVariants.{Read}
use Rattle.run_schedule.proofs.Fronts.{reads-push}
use Rattle.run_schedule.proofs.together.put_reads.Goals as goal

pub loop-slot-init : goal.loop-slot-init
loop-slot-init c = sym (append-nil c.args.steps.now.items)

pub loop-slot-preserved : goal.loop-slot-preserved
loop-slot-preserved c =
    let first = c.args.steps.now.items in
    let u = c.args.node in
    let i = c.loop-slot.slot in
    let more = map (λ j. Read u j) (range_with_len 0 i) in
    c.in_ok-push.ensures.items ∙ ap (λ xs. xs ++ Read u i ∷ []) c.loop-slot.invariant ∙ append_assoc first more (Read u i ∷ []) ∙ ap (λ xs. first ++ xs) (reads-push u i)

pub returns : goal.returns
returns c =
    let u = c.args.node in
    let end : c.loop-slot.slot ≡ degree c.args.network.now u = omega arith in
    record { put = c.loop-slot.invariant ∙ ap (λ n. c.args.steps.now.items ++ map (λ j. Read u j) (range_with_len 0 n)) end }

use Rattle.std.proofs.Common.{◌++◌, ◌∷◌, [], ap, ◌∙◌, map, take}
use Rattle.std.specs.List.{range_with_len}
use Rattle.unison_world.specs.declared.step.Step.TheVariants.{Read}
use Rattle.run_schedule.proofs.Fronts.{front-more, front-short, reads-push}
use Rattle.run_schedule.proofs.sweeps.put_turn.Goals as goal

pub loop-slot-preserved : goal.loop-slot-preserved
loop-slot-preserved c =
    let first = c.args.steps.now.items in
    let u = c.args.node in
    let i = c.loop-slot.slot in
    let more = map (λ j. Read u j) (range_with_len 0 i) in
    let made = front-more c.args.limit first more (Read u i ∷ []) c.loop-slot.steps.items c.put.new.steps.items c.loop-slot.invariant.put c.in_ok-put.ensures.put in
    record {
      few = front-short c.args.limit (first ++ (more ++ Read u i ∷ [])) c.put.new.steps.items made;
      put = made ∙ ap (λ x. take c.args.limit (first ++ x)) (reads-push u i);
    }

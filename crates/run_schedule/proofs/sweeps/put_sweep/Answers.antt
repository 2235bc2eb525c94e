use Rattle.std.proofs.Common.{◌++◌, ap, ◌∙◌, take}
use Rattle.std.specs.List.{range_with_len, flat_map}
use Rattle.run_schedule.specs.Sweeps.{turn_of}
use Rattle.run_schedule.proofs.Fronts.{front-more, front-short, turns-push}
use Rattle.run_schedule.proofs.sweeps.put_sweep.Goals as goal

pub loop-node-preserved : goal.loop-node-preserved
loop-node-preserved c =
    let first = c.args.steps.now.items in
    let turn = turn_of c.args.network.now in
    let u = c.loop-node.node in
    let more = flat_map turn (range_with_len 0 u) in
    let made = front-more c.args.limit first more (turn u) c.loop-node.steps.items c.put_turn.new.steps.items c.loop-node.invariant.put c.in_ok-put_turn.ensures.put in
    record {
      few = front-short c.args.limit (first ++ (more ++ turn u)) c.put_turn.new.steps.items made;
      put = made ∙ ap (λ x. take c.args.limit (first ++ x)) (turns-push turn u);
    }

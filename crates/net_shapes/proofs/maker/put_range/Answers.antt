use Rattle.std.proofs.Common.{◌+◌, append_assoc, refl}
use Rattle.std.proofs.lemmas.List.FromFn.{map-range_with_len_more}
use Rattle.net_shapes.specs.Ahead.{link_to}
use Rattle.net_shapes.proofs.maker.put_range.Goals as goal

pub loop-step-preserved : goal.loop-step-preserved
loop-step-preserved c =
    let f = link_to c.args.node in
    let step = c.loop-step.step in
    rw (c.in_ok-push.ensures.items, c.loop-step.invariant, map-range_with_len_more f c.args.first step (c.args.first + step) refl, append_assoc) refl

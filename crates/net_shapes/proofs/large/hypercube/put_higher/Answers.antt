use Rattle.std.proofs.Common.{append_assoc, refl}
use Rattle.net_shapes.proofs.CubeRows.{raised_last}
use Rattle.net_shapes.proofs.large.hypercube.put_higher.Goals as goal

pub loop-digit-preserved : goal.loop-digit-preserved
loop-digit-preserved c =
    rw (c.in_ok-put_if.ensures, c.loop-digit.invariant, c.power-step.ensures.value, raised_last c.args.node c.loop-digit.digit, append_assoc) refl

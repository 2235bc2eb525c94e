use Rattle.std.proofs.Common.{arith}
use Rattle.rounds_blocks.proofs.States.{states_kept}
use Rattle.rounds_blocks.proofs.columns.columns_of.Goals as goal

pub returns-clause-states : goal.returns-clause-states
returns-clause-states c = λ u d inside plain.
    let l = c.loop-field in
    states_kept l.columns.items c.args.states.now c.args.fields u d (omega (arith, l.invariant.count, l.auto.field-end, c.loop-field-test.false))
    (λ k e h. l.invariant.made k e (omega (arith, h, c.loop-field-test.false))) inside (c.look_at.ensures.count u d inside) plain

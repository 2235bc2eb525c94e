use Rattle.std.proofs.Common.{arith}
use Rattle.unison_world.proofs.turns.run_sweeps.Goals as goal

pub loop-round-preserved : goal.loop-round-preserved
loop-round-preserved c =
    let i = c.loop-round.invariant in
    let swept = c.sweep-swept.ensures in
    let low = c.loop-round.auto._round in
    record {
      least = λ u h. (let r = swept.rises c.loop-round._round i.least u h in omega (arith, r, c.loop-round-test.true));
      steps = omega (arith, i.steps, swept.steps);
      few = omega (arith, i.few, swept.few, low, c.loop-round-test.true);
      drawn = swept.drawn;
      in_step = swept.in_step;
    }

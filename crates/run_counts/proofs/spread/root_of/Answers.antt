use Rattle.std.proofs.Common.{◌≡◌, ◌<◌, ◌+◌, ◌*◌, ◌/◌, ℕ, arith, subst, sym}
use Rattle.run_counts.proofs.Roots.{halved, last_step, root_of_quotient}
use Rattle.run_counts.proofs.spread.root_of.Goals as goal

pub raised-root-requires : goal.raised-root-requires
raised-root-requires c =
    let l = c.loop-halving in
    let half = halved l._halving l.step c.loop-halving-test.true l.invariant.step in
    record {
      few = c.requires.few;
      most = omega (arith, half.1, l.invariant.most);
      reached = l.invariant.reached;
      above = subst (λ (s : ℕ). c.args.number.now < c.args.divisor * ((l.root + s) * (l.root + s))) half.1 l.invariant.above;
    }

pub loop-halving-preserved : goal.loop-halving-preserved
loop-halving-preserved c =
    let l = c.loop-halving in
    let half = halved l._halving l.step c.loop-halving-test.true l.invariant.step in
    record {
      step = half.0;
      most = omega (arith, half.1, l.invariant.most, c.raised-root.ensures.most);
      reached = c.raised-root.ensures.reached;
      above = c.raised-root.ensures.above;
    }

pub returns : goal.returns
returns c =
    let l = c.loop-halving in
    let one = last_step l._halving l.step c.loop-halving-test.false l.invariant.step in
    record {
      root = sym (root_of_quotient c.args.number.now c.args.divisor l.root c.requires.divisor l.invariant.reached
          (subst (λ (s : ℕ). c.args.number.now < c.args.divisor * ((l.root + s) * (l.root + s))) one l.invariant.above));
      small = omega (arith, one, l.invariant.most);
    }

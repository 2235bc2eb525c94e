use Rattle.std.proofs.Common.{arith}
use Rattle.net_random.proofs.Choices.{one_more, few_more, all_more, whole}
use Rattle.net_random.proofs.choice.fill.Goals as goal

pub loop-other-preserved : goal.loop-other-preserved
loop-other-preserved c =
    let other = c.loop-other.other in
    let before = c.loop-other.chosen.keys in
    rw c.in_ok-choose.ensures (record {
      different = one_more c.args.node other before c.loop-other.invariant.different c.loop-other-test.true;
      few = omega (arith, few_more other before);
      lowest = all_more other before c.loop-other.invariant.lowest;
    })

pub returns-clause-count : goal.returns-clause-count
returns-clause-count c =
    let all = whole c.args.node c.loop-other.chosen.keys c.loop-other.invariant.different (λ w low. c.loop-other.invariant.lowest w (omega arith)) in
    omega arith

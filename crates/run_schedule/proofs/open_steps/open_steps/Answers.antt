use Rattle.std.proofs.Common.{below_more, arith}
use Rattle.run_schedule.proofs.Finding.{rests-everywhere}
use Rattle.run_schedule.proofs.open_steps.open_steps.Goals as goal

pub loop-node-preserved : goal.loop-node-preserved
loop-node-preserved c =
    record {
      opens = c.in_ok-find_at.ensures.opens c.loop-node.invariant.opens;
      none = λ n. (let f = c.in_ok-find_at.ensures.none n in below_more _ _ (c.loop-node.invariant.none f.0) f.1);
    }

pub returns-clause-none : goal.returns-clause-none
returns-clause-none c n =
    let many = rw c.network.ensures.network at c.nodes-node-end.ensures.count in
    rests-everywhere c.args.walk.now (λ u h. c.loop-node.invariant.none n u (omega (arith, h, many, c.loop-node-test.false)))

use Rattle.std.proofs.Common.{arith}
use Rattle.net_random.proofs.Choices.{one_more, few_more}
use Rattle.net_random.proofs.choice.drawn_nodes.Goals as goal
use Rattle.net_random.proofs.choice.drawn_nodes.Goals.{in-Some+in_ok-choose, in_default}

pub loop-preserved : goal.loop-preserved
loop-preserved c =
    let before = c.loop.chosen.keys in
    elim c.match-drawn_end.branch [
      | in-Some+in_ok-choose w ↦
          rw (w.chosen-is, w.in_ok-choose.ensures) (record {
            different = λ n within. one_more n w.in-Some.end before (c.loop.invariant.different n within) (w.in-Some.ensures n within);
            few = omega (arith, few_more w.in-Some.end before);
          })
      | in_default w ↦ rw w.chosen-is c.loop.invariant
    ]

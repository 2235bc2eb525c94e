use Rattle.std.proofs.Common.{arith}
use Rattle.run_steps.proofs.verify.Answering.{all-read}
use Rattle.run_steps.proofs.verify.steps.first_unread.Goals as goal

pub returns : goal.returns
returns c =
    let w = c.args.world.now in
    let past = c.loop-slot-test.false in
    let many = c.degree-slot-end.ensures in
    absurd (all-read w.plan.network w.stop w.counts c.args.node c.loop-slot.slot (omega arith) c.loop-slot.invariant c.requires.node c.requires.refused)

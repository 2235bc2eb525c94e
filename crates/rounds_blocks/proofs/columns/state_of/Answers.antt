use Rattle.rounds_blocks.proofs.States.{state_read}
use Rattle.rounds_blocks.proofs.columns.state_of.Goals as goal

pub returns : goal.returns
returns c =
    let l = c.loop-k in
    record { exact = state_read l.words c.args.columns.now l.k c.args.node l.invariant.long l.invariant.read l.invariant.rest c.loop-k-test.false }

use Rattle.std.proofs.Common.{◌∙◌, ap, set}
use Rattle.run_cuts.specs.Cuts.{occasion}
use Rattle.run_cuts.specs.Counting.{after_one, here_of}
use Rattle.run_cuts.proofs.Turns.{filled_more}
use Rattle.run_cuts.proofs.tally.note_all.Goals as goal

pub loop-each-preserved : goal.loop-each-preserved
loop-each-preserved c =
    let node = c.args.node.now in
    let f = after_one (here_of node) (occasion node.round node.id) in
    let l = c.loop-each in
    ap (λ x. set l.counted l.each-index x) c.note_one.ensures.exact
    ∙ filled_more f c.args.counted.now l.counted l.each-index c.each-item.result c.loop-each-test.true l.invariant

use Rattle.std.proofs.Common.{◌∙◌, ap, get_or, Some, None, arith, if◌then◌else◌}
use Rattle.net_initial.proofs.Ranges.{all_met}
use Rattle.net_initial.proofs.table.put_range.Goals as goal

pub returns : goal.returns
returns c = λ u h.
    c.loop-node.invariant.put u h
    ∙ ap (λ b. if b then Some c.args.value else get_or c.args.table.now u None)
    (all_met c.args.first c.args.last c.loop-node.node u (λ low. omega (arith, low, h, c.loop-node-test.false, c.min-end.ensures, c.loop-node.invariant.long)))

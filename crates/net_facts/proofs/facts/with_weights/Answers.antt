use Rattle.std.proofs.Common.{◌++◌, take, subst, arith}
use Rattle.std.proofs.lemmas.List.{take_all}
use Rattle.net_facts.specs.Facts.{IsRangeOf}
use Rattle.net_facts.proofs.Ranges.{take_last}
use Rattle.net_facts.proofs.facts.with_weights.Goals as goal

pub loop-weight-preserved : goal.loop-weight-preserved
loop-weight-preserved c = λ numbers is.
    let weights = c.args.weights.now in
    let k = c.loop-weight.weight-index in
    subst (λ ns. IsRangeOf ns c.with-range.result) (take_last numbers weights k c.loop-weight-test.true) (c.with-range.ensures.range (numbers ++ take k weights) (c.loop-weight.invariant numbers is))

pub returns : goal.returns
returns c = record { range = λ numbers is. subst (λ ws. IsRangeOf (numbers ++ ws) c.loop-weight.range) (take_all c.loop-weight.weight-index c.args.weights.now (omega arith)) (c.loop-weight.invariant numbers is) }

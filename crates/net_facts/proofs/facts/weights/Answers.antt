use Rattle.std.proofs.Common.{◌∙◌, ◌++◌, length, take, sym, ap, subst, arith, ◌<◌}
use Rattle.net_facts.specs.Facts.{IsRangeOf, weights_of}
use Rattle.net_facts.proofs.Ranges.{weights_more}
use Rattle.net_facts.proofs.facts.weights.Goals as goal

pub loop-node-preserved : goal.loop-node-preserved
loop-node-preserved c =
    let network = c.args.network.now in
    let node = c.loop-node.node in
    let inside : node < length network = omega (arith, c.loop-node-test.true, c.nodes-node-end.ensures.count) in
    let numbers = weights_of (take node network) in
    let more = ap (λ ws. numbers ++ ws) c.weights_of.ensures.exact ∙ sym (weights_more network node inside) in
    subst (λ ns. IsRangeOf ns c.with_weights-range.result) more (c.with_weights-range.ensures.range numbers c.loop-node.invariant)

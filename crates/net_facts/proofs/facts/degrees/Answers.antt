use Rattle.std.proofs.Common.{◌∙◌, ◌++◌, ◌∷◌, [], length, map, take, sym, ap, subst, arith, ◌<◌}
use Rattle.net_facts.specs.Facts.{IsRangeOf}
use Rattle.net_facts.proofs.Ranges.{degrees_more}
use Rattle.net_facts.proofs.facts.degrees.Goals as goal

pub loop-node-preserved : goal.loop-node-preserved
loop-node-preserved c =
    let network = c.args.network.now in
    let node = c.loop-node.node in
    let inside : node < length network = omega (arith, c.loop-node-test.true, c.nodes-node-end.ensures.count) in
    let numbers = map length (take node network) in
    let more = ap (λ d. numbers ++ d ∷ []) c.degree_of.ensures.exact ∙ sym (degrees_more network node inside) in
    subst (λ ns. IsRangeOf ns c.with-range.result) more (c.with-range.ensures.range numbers c.loop-node.invariant)

use Rattle.std.proofs.Common.{arith}
use Rattle.rule_ranges.specs.declared.bounds.Bounds.{Bounds}
use Rattle.app_why.proofs.Within.{node_within}
use Rattle.app_why.proofs.bounds.bounds_of.Goals as goal

pub returns-clause-within : goal.returns-clause-within
returns-clause-within c = λ fields round u ranges at inside early states.
    let bounds : Bounds = record { id = c.saturating_sub.result; degree = c.greatest_degree.result; weight = c.greatest_weight.result; round = 1000000000 } in
    node_within bounds c.args.rows.now fields round u ranges at c.nodes.ensures.whole.within (omega (arith, c.nodes.ensures.count, c.saturating_sub.ensures)) c.greatest_degree.ensures.each
    (c.greatest_weight.ensures.each u) early inside states

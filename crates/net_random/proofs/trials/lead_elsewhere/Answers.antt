use Rattle.std.proofs.Common.{◌<◌, ◌∙◌, rules}
use Rattle.net_random.proofs.trials.lead_elsewhere.Goals as goal

pub returns-then-branch-clause-known : goal.returns-then-branch-clause-known
returns-then-branch-clause-known c is =
    let low : c.random_range-node.result < c.args.nodes = search rules in
    c.in_ok-lead.ensures.known c.args.nodes low (c.loop.invariant.known is)

pub loop-preserved : goal.loop-preserved
loop-preserved c =
    let low : c.random_range-node.result < c.args.nodes = search rules in
    record {
      known = λ is. c.in_ok-lead.ensures.known c.args.nodes low (c.loop.invariant.known is);
      begin = c.in_ok-lead.ensures.starts ∙ c.loop.invariant.begin;
    }

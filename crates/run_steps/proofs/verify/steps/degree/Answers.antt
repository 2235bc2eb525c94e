use Rattle.std.proofs.Common.{◌∙◌, ap}
use Rattle.link_net.specs.Neighbours.{degree}
use Rattle.run_steps.proofs.verify.steps.degree.Goals as goal

pub returns : goal.returns
returns c =
    let network = c.rows.ensures.rows ∙ ap (λ p. p.network) c.plan.ensures.plan in
    c.degree_of.ensures.exact ∙ ap (λ n. degree n c.args.node) network

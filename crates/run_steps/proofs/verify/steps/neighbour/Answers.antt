use Rattle.std.proofs.Common.{◌∙◌, ap}
use Rattle.link_net.specs.Neighbours.{neighbour}
use Rattle.run_steps.proofs.verify.steps.neighbour.Goals as goal

pub returns : goal.returns
returns c =
    let network = c.rows.ensures.rows ∙ ap (λ p. p.network) c.plan.ensures.plan in
    c.neighbour_of.ensures.exact ∙ ap (λ n. neighbour n c.args.node c.args.slot) network

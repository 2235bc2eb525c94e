use Rattle.std.proofs.Common.{◌≡◌, ◌∙◌, Ok, ap, length, map, subst, sym}
use Rattle.std.specs.Arc.{arc_value}
use Rattle.link_net.specs.Neighbours.{numbers_below}
use Rattle.unison_world.specs.Counting.{InStep, answers, run}
use Rattle.unison_world.specs.View.{WorldView, opened, with_counts}
use Rattle.headline.specs.Showing.{shown_in}
use Rattle.headline.proofs.Unison.{is_unison, opened_is}
use Rattle.headline.proofs.steps.after_steps.Goals as goal

pub returns-clause-unison : goal.returns-clause-unison
returns-clause-unison c =
    let plan = arc_value c.args.plan in
    let stop = c.args.stop in
    let steps = c.args.steps.now in
    let first = opened_is plan stop c.in_ok-world.world c.in_ok-world.ensures.exact in
    let made : c.answers_to.new.world ≡ with_counts (opened plan stop) (run plan.network stop (opened plan stop).counts steps) =
    c.in_ok-answers.ensures.made ∙ ap (λ (w : WorldView). with_counts w (run w.plan.network w.stop w.counts steps)) first in
    is_unison plan stop steps _
    (subst (λ (w : WorldView). c.in_ok-nodes.nodes.items ≡ map (shown_in w) (numbers_below (length w.plan.network))) made c.in_ok-nodes.ensures.nodes)
    (c.in_ok-answers.ensures.answers ∙ ap (λ (w : WorldView). answers w.plan.network w.stop w.counts steps) first)
    (subst (λ (w : WorldView). InStep w.plan.network w.stop w.counts) made c.in_ok-nodes.ensures.in_step)

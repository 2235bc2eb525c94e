use Rattle.std.proofs.Common.{◌≡◌, ◌<◌, length, ap, sym, subst, ◌∙◌}
use Rattle.std.specs.Arc.{arc_value}
use Rattle.rounds_plan.specs.Plans.{PlanView}
use Rattle.unison_world.specs.View.{WorldView}
use Rattle.unison_world.specs.Opening.{opening_of}
use Rattle.run_schedule.specs.Starving.{StarvesNode}
use Rattle.run_schedule.proofs.Ending.{list-along, opened-is, walk-starves}
use Rattle.run_schedule.proofs.listing.starved.Goals as goal

pub returns-clause-starved : goal.returns-clause-starved
returns-clause-starved c =
    let plan = arc_value c.args.plan in
    let stop = c.args.stop in
    let node = c.args.node in
    let begun = c.in_ok-walk.ensures.begun in
    let w = c.in_ok-ended.ended in
    let ended = c.in_ok-ended.ensures in
    let world = opened-is plan stop (opening_of plan stop) c.in_ok-walk.walk.world c.in_ok-walk.ensures.opened c.requires.opens in
    let same : w.world.plan ≡ plan = ended.plan.0 ∙ ap (λ (x : WorldView). x.plan) world in
    let here : node < length w.world.plan.network = subst (λ (p : PlanView). node < length p.network) (sym same) c.requires.node in
    let starves = walk-starves w node c.into_steps.ensures.walk c.into_steps.ensures.sound (ended.still.0 ∙ begun.0) here ended.ends in
    rw c.into_steps.ensures.steps
    (list-along (λ p s l. StarvesNode p s node l w.steps) w.world.plan plan w.world.stop stop w.limit c.args.limit
    same (ended.plan.1 ∙ ap (λ (x : WorldView). x.stop) world) (ended.still.1 ∙ begun.1) starves)

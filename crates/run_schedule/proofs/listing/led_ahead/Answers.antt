use Rattle.std.proofs.Common.{◌≡◌, ◌<◌, length, refl, ap, sym, subst, ◌∙◌}
use Rattle.std.specs.Arc.{arc_value}
use Rattle.rounds_plan.specs.Plans.{PlanView}
use Rattle.unison_world.specs.View.{WorldView, opened}
use Rattle.unison_world.specs.Opening.{opening_of}
use Rattle.run_schedule.specs.Leading.{LeadsNode}
use Rattle.run_schedule.proofs.Ending.{list-along, opened-is, walk-leads}
use Rattle.run_schedule.proofs.listing.led_ahead.Goals as goal

pub led-requires-clause-node : goal.led-requires-clause-node
led-requires-clause-node c =
    let plan = arc_value c.args.plan in
    let stop = c.args.stop in
    let world = opened-is plan stop (opening_of plan stop) c.in_ok-walk.walk.world c.in_ok-walk.ensures.opened c.requires.opens in
    subst (λ (p : PlanView). c.args.node < length p.network) (sym (ap (λ (x : WorldView). x.plan) world)) c.requires.node

pub led-requires-clause-opened : goal.led-requires-clause-opened
led-requires-clause-opened c =
    let plan = arc_value c.args.plan in
    let stop = c.args.stop in
    let world = opened-is plan stop (opening_of plan stop) c.in_ok-walk.walk.world c.in_ok-walk.ensures.opened c.requires.opens in
    subst (λ (x : WorldView). x ≡ opened x.plan x.stop) (sym world) refl

pub returns-clause-ahead : goal.returns-clause-ahead
returns-clause-ahead c =
    let plan = arc_value c.args.plan in
    let stop = c.args.stop in
    let node = c.args.node in
    let begun = c.in_ok-walk.ensures.begun in
    let w = c.in_ok-ended.ended in
    let ended = c.in_ok-ended.ensures in
    let world = opened-is plan stop (opening_of plan stop) c.in_ok-walk.walk.world c.in_ok-walk.ensures.opened c.requires.opens in
    let leads = walk-leads w node c.into_steps.ensures.walk c.into_steps.ensures.sound ended.ahead ended.ends in
    rw c.into_steps.ensures.steps
    (list-along (λ p s l. LeadsNode p s node l w.steps) w.world.plan plan w.world.stop stop w.limit c.args.limit
    (ended.plan.0 ∙ ap (λ (x : WorldView). x.plan) world) (ended.plan.1 ∙ ap (λ (x : WorldView). x.stop) world) (ended.limit ∙ begun.1) leads)

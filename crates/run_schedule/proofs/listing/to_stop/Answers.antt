use Rattle.std.proofs.Common.{ap, ◌∙◌}
use Rattle.std.specs.Arc.{arc_value}
use Rattle.unison_world.specs.View.{WorldView}
use Rattle.unison_world.specs.Opening.{opening_of}
use Rattle.run_schedule.specs.Lists.{GoesToStop}
use Rattle.run_schedule.proofs.Ending.{list-along, opened-is, walk-to_stop}
use Rattle.run_schedule.proofs.listing.to_stop.Goals as goal

pub returns-clause-goes : goal.returns-clause-goes
returns-clause-goes c =
    let plan = arc_value c.args.plan in
    let stop = c.args.stop in
    let begun = c.in_ok-walk.ensures.begun in
    let w = c.in_ok-ended.ended in
    let ended = c.in_ok-ended.ensures in
    let world = opened-is plan stop (opening_of plan stop) c.in_ok-walk.walk.world c.in_ok-walk.ensures.opened c.requires.opens in
    let goes = walk-to_stop w c.into_steps.ensures.walk c.into_steps.ensures.sound (ended.still.0 ∙ begun.0) ended.ends in
    rw c.into_steps.ensures.steps
    (list-along (λ p s l. GoesToStop p s l w.steps) w.world.plan plan w.world.stop stop w.limit c.args.limit
    (ended.plan.0 ∙ ap (λ (x : WorldView). x.plan) world) (ended.plan.1 ∙ ap (λ (x : WorldView). x.stop) world) (ended.still.1 ∙ begun.1) goes)

use Rattle.std.proofs.Common.{◌≡◌, ap, sym, subst, refl, ◌∙◌}
use Rattle.std.specs.Arc.{arc_value}
use Rattle.link_net.specs.Neighbours.{IsNetwork}
use Rattle.rounds_plan.specs.Plans.{PlanView}
use Rattle.unison_world.specs.View.{WorldView, opened}
use Rattle.unison_world.specs.Opening.{opening_of}
use Rattle.unison_trace.proofs.Leading.{late}
use Rattle.run_schedule.specs.declared.daemon.Daemon.{Daemon}
use Rattle.run_schedule.specs.Daemons.{AreStepsUnder, IsUnderDaemon}
use Rattle.run_schedule.proofs.Driven.{keeps-two}
use Rattle.run_schedule.proofs.Ending.{list-along, opened-is, walk-to_stop}
use Rattle.run_schedule.proofs.Rounds.{sync-list}
use Rattle.run_schedule.proofs.listing.chosen_by.Goals as goal

pub driven-requires-clause-two : goal.driven-requires-clause-two
driven-requires-clause-two c =
    let plan = arc_value c.args.plan in
    let stop = c.args.stop in
    let world = opened-is plan stop (opening_of plan stop) c.in_ok-walk.walk.world c.in_ok-walk.ensures.opened c.requires.opens in
    keeps-two plan stop c.args.daemon (subst (λ (p : PlanView). IsNetwork p.network) (ap (λ (x : WorldView). x.plan) world) c.network-network.ensures.sound.plan.network) c.requires.fits

pub driven-requires-clause-opened : goal.driven-requires-clause-opened
driven-requires-clause-opened c =
    let plan = arc_value c.args.plan in
    let stop = c.args.stop in
    let world = opened-is plan stop (opening_of plan stop) c.in_ok-walk.walk.world c.in_ok-walk.ensures.opened c.requires.opens in
    subst (λ (x : WorldView). x ≡ opened x.plan x.stop) (sym world) refl

pub returns-clause-under : goal.returns-clause-under
returns-clause-under c =
    let plan = arc_value c.args.plan in
    let stop = c.args.stop in
    let begun = c.in_ok-walk.ensures.begun in
    let w = c.in_ok-ended.ended in
    let ended = c.in_ok-ended.ensures in
    let world = opened-is plan stop (opening_of plan stop) c.in_ok-walk.walk.world c.in_ok-walk.ensures.opened c.requires.opens in
    let goes = walk-to_stop w c.into_steps.ensures.walk c.into_steps.ensures.sound (ended.still.0 ∙ begun.0) ended.ends in
    rw c.into_steps.ensures.steps
    (list-along (λ p s l. IsUnderDaemon p s c.args.daemon l w.steps) w.world.plan plan w.world.stop stop w.limit c.args.limit
    (ended.plan.0 ∙ ap (λ (x : WorldView). x.plan) world) (ended.plan.1 ∙ ap (λ (x : WorldView). x.stop) world) (ended.still.1 ∙ begun.1)
    (record {
      goes = goes;
      under = ended.under;
      rounds = λ e.
          (let under = subst (λ (x : Daemon). AreStepsUnder w.world.plan w.world.stop x w.limit w.steps) e ended.under in
          sync-list w.world.plan w.world.stop w.limit w.steps c.into_steps.ensures.sound.plan (late w.world c.into_steps.ensures.sound.plan c.into_steps.ensures.sound.in_step c.into_steps.ensures.sound.started) goes under);
    }))

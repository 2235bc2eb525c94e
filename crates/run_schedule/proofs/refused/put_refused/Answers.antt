use Rattle.std.proofs.Common.{◌∙◌, ap}
use Rattle.unison_world.specs.Counting.{at_start}
use Rattle.unison_trace.specs.Histories.{run_of}
use Rattle.run_schedule.specs.Mixing.{changing_of}
use Rattle.run_schedule.proofs.Mixing.{refused-more}
use Rattle.run_schedule.proofs.refused.put_refused.Goals as goal

pub returns-in_ok-push-clause-arrives : goal.returns-in_ok-push-clause-arrives
returns-in_ok-push-clause-arrives c =
    let w = c.args.world.now in
    let s = c.args.step in
    ap (run_of w.plan w.stop) c.in_ok-push.ensures.items ∙ (refused-more w.plan.network w.stop (at_start w.plan.network w.plan.start) w.counts c.args.steps.now.items s c.requires.arrives c.requires.refused.idle).0

pub returns-in_ok-push-clause-same : goal.returns-in_ok-push-clause-same
returns-in_ok-push-clause-same c =
    let w = c.args.world.now in
    let s = c.args.step in
    ap (changing_of w.plan w.stop) c.in_ok-push.ensures.items ∙ (refused-more w.plan.network w.stop (at_start w.plan.network w.plan.start) w.counts c.args.steps.now.items s c.requires.arrives c.requires.refused.idle).1

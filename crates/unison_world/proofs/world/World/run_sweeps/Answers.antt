use Rattle.std.proofs.Common.{◌∙◌, arith, ◌≡◌, ◌+◌, ap}
use Rattle.std.specs.Arc.{arc_value}
use Rattle.unison_world.specs.Counting.{at_start}
use Rattle.unison_world.specs.Pictures.{counts_of}
use Rattle.unison_world.specs.Progress.{steps_done, steps_left}
use Rattle.unison_world.specs.View.{with_counts}
use Rattle.unison_world.proofs.Wholes.{shape-drawn}
use Rattle.unison_world.proofs.Sweepings.{counts-at_stop, done-left}
use Rattle.unison_world.proofs.world.World.run_sweeps.Goals as goal

pub returns-clause-after : goal.returns-clause-after
returns-clause-after c =
    let plan = arc_value c.self.inside.plan in
    let stop = c.self.inside.stop in
    let items = c.run_sweeps.new.nodes.items in
    let drawn = rw (c.of_plan-plan.ensures.plan ∙ c.deref-2.ensures) at c.run_sweeps.ensures.drawn in
    let in_step = rw (c.of_plan-plan.ensures.plan ∙ c.deref-2.ensures) at c.run_sweeps.ensures.in_step in
    let at_stop = rw (c.of_plan-plan.ensures.plan ∙ c.deref-2.ensures) at c.run_sweeps.ensures.at_stop in
    let e : counts_of items ≡ at_start plan.network stop = counts-at_stop plan.network stop (counts_of items) (shape-drawn plan items drawn) in_step at_stop in
    rw (← c.self.view_is) (ap (with_counts (record { plan = plan; stop = stop; counts = counts_of c.self.inside.nodes.items })) e)

pub returns-clause-steps : goal.returns-clause-steps
returns-clause-steps c =
    let plan = arc_value c.self.inside.plan in
    let stop = c.self.inside.stop in
    let items = c.run_sweeps.new.nodes.items in
    let cs = counts_of c.self.inside.nodes.items in
    let drawn = rw (c.of_plan-plan.ensures.plan ∙ c.deref-2.ensures) at c.run_sweeps.ensures.drawn in
    let in_step = rw (c.of_plan-plan.ensures.plan ∙ c.deref-2.ensures) at c.run_sweeps.ensures.in_step in
    let at_stop = rw (c.of_plan-plan.ensures.plan ∙ c.deref-2.ensures) at c.run_sweeps.ensures.at_stop in
    let steps : steps_done plan.network (counts_of items) ≡ steps_done plan.network cs + c.run_sweeps.result = rw (c.of_plan-plan.ensures.plan ∙ c.deref-2.ensures) at c.run_sweeps.ensures.steps in
    let e : counts_of items ≡ at_start plan.network stop = counts-at_stop plan.network stop (counts_of items) (shape-drawn plan items drawn) in_step at_stop in
    let whole = done-left plan.network stop cs (shape-drawn plan c.self.inside.nodes.items c.self.invariant.drawn) c.self.invariant.in_step in
    let last = ap (steps_done plan.network) e in
    let same : c.run_sweeps.result ≡ steps_left plan.network stop cs = omega (arith, steps, whole, last) in
    rw (← c.self.view_is) same

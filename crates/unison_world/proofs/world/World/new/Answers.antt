use Rattle.std.proofs.Common.{arith, ◌∙◌, ◌≤◌}
use Rattle.std.specs.Arc.{arc_value}
use Rattle.unison_world.proofs.Steps.{in_step-at_start}
use Rattle.unison_world.proofs.world.World.new.Goals as goal

pub invariant_of-result : goal.invariant_of-result
invariant_of-result c =
    let plan = arc_value c.args.plan in
    let counts = rw (c.of_plan-lent.ensures.plan ∙ c.deref-2.ensures) at c.in_ok-nodes.ensures.counts in
    let drawn = rw (c.of_plan-lent.ensures.plan ∙ c.deref-2.ensures) at c.in_ok-nodes.ensures.drawn in
    let start = rw c.deref.ensures at c.start.ensures.start in
    let late : plan.start ≤ c.args.stop = omega (arith, start, c.if-stop-start.false) in
    record {
      limit = omega arith;
      drawn = drawn;
      in_step = rw counts (in_step-at_start plan.network plan.start c.args.stop drawn.well_formed.network late);
    }

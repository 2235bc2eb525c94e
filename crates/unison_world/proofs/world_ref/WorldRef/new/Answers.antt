use Rattle.std.proofs.Common.{arith, ◌≤◌}
use Rattle.unison_world.proofs.Steps.{in_step-at_start}
use Rattle.unison_world.proofs.world_ref.WorldRef.new.Goals as goal

pub invariant_of-result : goal.invariant_of-result
invariant_of-result c =
    let plan = c.args.plan in
    let drawn = c.in_ok-nodes.ensures.drawn in
    let late : plan.start ≤ c.args.stop = omega (arith, c.start.ensures.start, c.if-stop-start.false) in
    record {
      limit = omega arith;
      drawn = drawn;
      in_step = rw c.in_ok-nodes.ensures.counts (in_step-at_start plan.network plan.start c.args.stop drawn.well_formed.network late);
    }

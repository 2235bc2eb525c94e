use Rattle.rounds_plan.proofs.SimplePlans.{simple_plan}
use Rattle.rounds_plan.proofs.simple_plan.SimplePlan.of_plan.Goals as goal

pub invariant_of-result : goal.invariant_of-result
invariant_of-result c = rw c.of_plan.ensures.plan (simple_plan c.args.plan.now c.phase-phase.ensures.whole)

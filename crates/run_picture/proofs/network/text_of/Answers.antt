use Rattle.std.proofs.Common.{ap, arith, length}
use Rattle.rounds_plan.specs.Plans.{PlanView}
use Rattle.run_picture.proofs.Counts.{values_count}
use Rattle.run_picture.proofs.network.text_of.Goals as goal

pub graph_of-requires : goal.graph_of-requires
graph_of-requires g c = record {
  few = omega (arith, ap length c.deref.ensures.value, ap length c.in_ok-values.ensures.values, values_count c.of_plan-lent.result c.args.colouring.now.field c.args.round, ap (λ (p : PlanView). length p.network) c.of_plan-lent.ensures.plan, c.phase-phase.ensures.whole.network.nodes);
}

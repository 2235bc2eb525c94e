-- The plan of a network file is one on a simple network.
use Rattle.link_net.proofs.Simples.{network_simple}
use Rattle.rounds_plan.specs.Plans.{PlanView, IsPlan}
use Rattle.rounds_plan.specs.Starts.{IsSimplePlan}

pub simple_plan : (p : PlanView) → IsPlan p → IsSimplePlan p
simple_plan p whole =
    record {
      network = network_simple p.network whole.network;
      some = whole.network.some;
      fields = whole.fields;
      opening = whole.opening;
      plain = whole.plain;
      start = whole.start;
    }

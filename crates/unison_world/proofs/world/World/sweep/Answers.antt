use Rattle.std.proofs.Common.{◌∙◌}
use Rattle.unison_world.proofs.world.World.sweep.Goals as goal

pub invariant_of-self : goal.invariant_of-self
invariant_of-self c =
    record {
      limit = c.self.invariant.limit;
      drawn = rw (c.of_plan-plan.ensures.plan ∙ c.deref-2.ensures) at c.sweep.ensures.drawn;
      in_step = rw (c.of_plan-plan.ensures.plan ∙ c.deref-2.ensures) at c.sweep.ensures.in_step;
    }

pub returns-clause-rises : goal.returns-clause-rises
returns-clause-rises c = rw (← c.self.view_is) (rw (c.of_plan-plan.ensures.plan ∙ c.deref-2.ensures) at c.sweep.ensures.rises)

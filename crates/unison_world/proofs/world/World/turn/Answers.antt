use Rattle.std.proofs.Common.{◌∙◌}
use Rattle.unison_world.proofs.world.World.turn.Goals as goal

pub invariant_of-self : goal.invariant_of-self
invariant_of-self c =
    record {
      limit = c.self.invariant.limit;
      drawn = rw (c.of_plan-plan.ensures.plan ∙ c.deref.ensures) at c.turn.ensures.drawn;
      in_step = rw (c.of_plan-plan.ensures.plan ∙ c.deref.ensures) at c.turn.ensures.in_step;
    }

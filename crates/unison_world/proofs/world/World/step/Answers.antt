use Rattle.std.proofs.Common.{◌∙◌}
use Rattle.std.specs.Arc.{arc_value}
use Rattle.unison_world.proofs.Wholes.{picture-after}
use Rattle.unison_world.proofs.world.World.step.Goals as goal

pub invariant_of-self : goal.invariant_of-self
invariant_of-self c =
    let fields = c.self.inside in
    let counts = rw (c.of_plan-plan.ensures.plan ∙ c.deref.ensures) at c.make.ensures.counts in
    let drawn = rw (c.of_plan-plan.ensures.plan ∙ c.deref.ensures) at c.make.ensures.drawn in
    picture-after (arc_value fields.plan) fields.stop fields.nodes.items c.make.new.nodes.items c.args.step c.self.invariant counts drawn

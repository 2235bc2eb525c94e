use Rattle.std.proofs.Common.{◌∙◌}
use Rattle.std.specs.Arc.{arc_value}
use Rattle.unison_world.proofs.Wholes.{picture-put}
use Rattle.unison_world.proofs.world.World.put.Goals as goal

pub invariant_of-self : goal.invariant_of-self
invariant_of-self c =
    let fields = c.self.inside in
    let counts = rw (c.of_plan-plan.ensures.plan ∙ c.deref.ensures) at c.put.ensures.counts in
    let drawn = rw (c.of_plan-plan.ensures.plan ∙ c.deref.ensures) at c.put.ensures.drawn in
    picture-put (arc_value fields.plan) fields.stop fields.nodes.items c.put.new.nodes.items c.args.done.now.work c.put.result c.self.invariant counts drawn

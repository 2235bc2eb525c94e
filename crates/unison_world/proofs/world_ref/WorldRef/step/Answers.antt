use Rattle.unison_world.proofs.Wholes.{picture-after}
use Rattle.unison_world.proofs.world_ref.WorldRef.step.Goals as goal

pub invariant_of-self : goal.invariant_of-self
invariant_of-self c =
    let fields = c.self.inside in
    picture-after fields.plan fields.stop fields.nodes.items c.make.new.nodes.items c.args.step c.self.invariant c.make.ensures.counts c.make.ensures.drawn

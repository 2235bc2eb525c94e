use Rattle.unison_world.proofs.Wholes.{shape-drawn, started-drawn}
use Rattle.unison_world.proofs.world_ref.WorldRef.nodes.Goals as goal

pub returns-clause-shape : goal.returns-clause-shape
returns-clause-shape c = rw (← c.self.view_is) (shape-drawn c.self.inside.plan c.self.inside.nodes.items c.self.invariant.drawn)

pub returns-clause-started : goal.returns-clause-started
returns-clause-started c = rw (← c.self.view_is) (started-drawn c.self.inside.plan c.self.inside.nodes.items c.self.invariant.drawn)

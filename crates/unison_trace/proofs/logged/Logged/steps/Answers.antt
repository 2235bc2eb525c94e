use Rattle.unison_trace.proofs.Leading.{no-longer, late}
use Rattle.unison_trace.proofs.logged.Logged.steps.Goals as goal

pub returns-in-Some-clause-no_longer : goal.returns-in-Some-clause-no_longer
returns-in-Some-clause-no_longer c =
    let w = c.self.inside.world in
    let n = c.nodes-nodes.ensures in
    rw (← c.self.view_is) (no-longer w c.self.inside.log n.plan (late w n.plan n.in_step n.started) n.shape n.in_step c.self.invariant)

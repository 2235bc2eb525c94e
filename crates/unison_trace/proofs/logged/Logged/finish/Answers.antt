use Rattle.unison_trace.proofs.Leading.{finished-trace, late}
use Rattle.unison_trace.proofs.logged.Logged.finish.Goals.{in-None, in-Some}
use Rattle.unison_trace.proofs.logged.Logged.finish.Goals as goal

pub returns-clause-whole : goal.returns-clause-whole
returns-clause-whole c = elim c.match-log-2.branch [
  | in-None w ↦ rw w.trace-is tt
  | in-Some w ↦
      let world = c.self.inside.world in
      let n = c.nodes-nodes.ensures in
      let done = c.in_ok-config.ensures.answer in
      rw w.trace-is (finished-trace world c.args.plan.now c.args.stop c.self.inside.log w.in-Some.log w.into_steps.result.items n.plan (late world n.plan n.in_step n.started) n.shape n.in_step done.0 done.1 c.self.invariant w.in-Some.is w.into_steps.ensures.steps)
]

use Rattle.app_jobs.proofs.Shapes.{state_each}
use Rattle.app_jobs.proofs.texts.lockstep_text.Goals as goal

pub report-requires-clause-nodes : goal.report-requires-clause-nodes
report-requires-clause-nodes g c = (state_each c.args.plan.now c.args.rounds c.in_ok-config.config c.in_ok-config.ensures.exact).nodes

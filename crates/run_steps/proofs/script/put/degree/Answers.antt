use Rattle.run_steps.proofs.script.Slots.{degree-found}
use Rattle.run_steps.proofs.script.put.degree.Goals as goal

pub returns : goal.returns
returns c = degree-found c.args.network.now c.args.node c.unwrap_or.result c.degree.result c.degree.ensures.value c.unwrap_or.ensures

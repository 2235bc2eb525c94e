use Rattle.run_steps.proofs.explain.Nearing.{differ_by_one_at_most}
use Rattle.run_steps.proofs.explain.laws.differ_by_one_at_most.Goals as goal

pub returns : goal.returns
returns c = record { near = differ_by_one_at_most }

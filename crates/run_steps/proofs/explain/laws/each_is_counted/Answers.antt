use Rattle.run_steps.proofs.explain.Counting.{each_is_counted}
use Rattle.run_steps.proofs.explain.laws.each_is_counted.Goals as goal

pub returns : goal.returns
returns c = record { counted = each_is_counted }

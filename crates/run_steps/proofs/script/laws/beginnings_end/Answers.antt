use Rattle.std.proofs.Common.{refl}
use Rattle.run_steps.specs.script.Refusals.{open_in}
use Rattle.run_steps.proofs.script.Endings.{ending}
use Rattle.run_steps.proofs.script.laws.beginnings_end.Goals as goal

pub returns : goal.returns
returns c = record { ends = λ b. ending (open_in b) b refl }

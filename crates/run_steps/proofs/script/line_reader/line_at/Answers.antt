use Rattle.std.proofs.Common.{ap, Err}
use Rattle.run_steps.specs.script.Meaning.{line_at}
use Rattle.run_steps.proofs.script.line_reader.line_at.Goals as goal

pub returns-in-Ok : goal.returns-in-Ok
unfolding line_at
returns-in-Ok c = rw c.in-Ok.ensures c.line_of.ensures

pub returns-in-Err : goal.returns-in-Err
unfolding line_at
returns-in-Err c = rw c.in-Err.ensures (ap Err c.fault_at.ensures)

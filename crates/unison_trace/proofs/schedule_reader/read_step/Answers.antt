use Rattle.unison_trace.proofs.ReadPairs.{step-no_pair}
use Rattle.unison_trace.proofs.schedule_reader.read_step.Goals as goal

pub returns-in_err-node : goal.returns-in_err-node
returns-in_err-node c = rw c.from_residual.ensures (step-no_pair c.args.bytes.now c.in-Some.numbers.now c.in-Some.ensures c.in_err-node.ensures)

use Rattle.run_steps.proofs.script.Answering.{answer-few}
use Rattle.run_steps.proofs.script.put.put_told.Goals as goal

pub returns-clause-few : goal.returns-clause-few
returns-clause-few c =
    answer-few c.args.network.now c.args.number (record { steps = c.args.steps.now.items; opens = c.args.opens.now.items }) c.in_ok-line.line c.put_line.result (record { steps = c.put_line.new.steps.items; opens = c.put_line.new.opens.items }) c.requires.few c.put_line.ensures.put

use Rattle.run_steps.proofs.explain.sentences.put_read.Goals as goal

pub returns-in-Stopped : goal.returns-in-Stopped
returns-in-Stopped c = record { words = rw c.in-Stopped.is c.put_stopped.ensures.words }

use Rattle.rounds_plan.specs.Lockstep.{rounds_of}
use Rattle.lockstep.proofs.RoundAnswers.{memory_answer}
use Rattle.lockstep.proofs.parallel.lockstep_par.Goals as goal

pub returns-in_err-config-clause-exact : goal.returns-in_err-config-clause-exact
returns-in_err-config-clause-exact g c = memory_answer (rounds_of c.args.plan.now c.args.rounds) c.from_residual-in_err-config.result c.from_residual-in_err-config.ensures.1

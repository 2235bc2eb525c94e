use Rattle.std.proofs.Common.{rules}
use Rattle.rounds_plan.specs.Lockstep.{lockstep_config}
use Rattle.app_jobs.proofs.first.rounds_fault.Goals as goal

pub returns-clause-accepted : goal.returns-clause-accepted
returns-clause-accepted c = λ _. (lockstep_config c.args.plan.now c.args.rounds, search rules)

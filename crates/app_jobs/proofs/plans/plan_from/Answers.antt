use Rattle.std.proofs.lemmas.Result.{err_from_is_err_and}
use Rattle.app_jobs.specs.Served.{given}
use Rattle.app_jobs.proofs.plans.plan_from.Goals as goal

pub returns-in_err-plan-clause-refused : goal.returns-in_err-plan-clause-refused
returns-in_err-plan-clause-refused c =
    let p = err_from_is_err_and c.from_residual.result c.from_residual.ensures.1 in
    rw (p.1, p.2) (c.in_err-plan.ensures.refused (given c.args.from))

use Rattle.std.proofs.lemmas.Result.{err_from_is_err_and}
use Rattle.app_jobs.proofs.Passing.{refused_program}
use Rattle.app_jobs.proofs.plans.plan_of_texts.Goals as goal

pub returns-in_err-_source-clause-refused : goal.returns-in_err-_source-clause-refused
returns-in_err-_source-clause-refused c = λ from.
    let p = err_from_is_err_and c.from_residual.result c.from_residual.ensures.1 in
    rw (p.1, p.2) (refused_program c.args.program.now c.args.network.now from _ c.in_err-_source.ensures.refused)

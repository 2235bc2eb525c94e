use Rattle.app_jobs.specs.Served.{given}
use Rattle.std.proofs.lemmas.Result.{err_from_is_err_and}
use Rattle.app_jobs.proofs.Passing.{needs_network, refused_check, refused_texts}
use Rattle.app_jobs.proofs.texts.answer.Goals as goal

pub returns-in_err-canonical-clause-refused : goal.returns-in_err-canonical-clause-refused
returns-in_err-canonical-clause-refused g c =
    let p = err_from_is_err_and c.from_residual.result c.from_residual.ensures.1 in
    rw (p.1, p.2) (refused_check c.args.job.now c.args.program.now c.args.network.now (given c.args.from) _ c.in_err-canonical.ensures.refused)

pub returns-in-Check-clause-served : goal.returns-in-Check-clause-served
returns-in-Check-clause-served g c =
    rw (c.in-Check.is, c.plain.ensures.answer) (c.in_ok-canonical.ensures.served c.args.network.now (given c.args.from))

pub returns-in_err-plan : goal.returns-in_err-plan
returns-in_err-plan g c =
    let p = err_from_is_err_and c.from_residual-in_err-plan.result c.from_residual-in_err-plan.ensures.1 in
    record {
      served = rw p.1 tt;
      trace = rw p.1 tt;
      agrees = rw p.1 tt;
      refused = rw (p.1, p.2) (refused_texts c.args.job.now c.args.program.now c.args.network.now (given c.args.from) _ (needs_network c.args.job.now c.in_default.not-Check) c.in_err-plan.ensures.refused);
      long = rw (p.1, p.2) c.in_err-plan.ensures.long;
      unwritten = rw (p.1, p.2) c.in_err-plan.ensures.unwritten;
    }

use Rattle.std.proofs.Common.{refl}
use Rattle.std.proofs.lemmas.Result.{err_from_is_err_and}
use Rattle.app_calls.specs.WatchAnswers.{plan_from}
use Rattle.app_calls.proofs.Watches.{entry_of}
use Rattle.app_calls.proofs.large.told.next_least.Goals as goal

pub returns-in_err-check_span : goal.returns-in_err-check_span
returns-in_err-check_span c =
    let p = err_from_is_err_and c.from_residual.result c.from_residual.ensures.1 in
    record { there = rw (p.1, p.2) (entry_of (plan_from c.args.start) c.args.least c.args.round _ (c.in_err-check_span.ensures.refused (plan_from c.args.start) refl)) }

use Rattle.std.proofs.Common.{length}
use Rattle.std.proofs.lemmas.Result.{err_from_is_err_and}
use Rattle.app_calls.proofs.ListFaults.{no_rounds}
use Rattle.app_calls.proofs.rounds.put_rounds.Goals as goal

pub returns-in_err-check_rounds-clause-refused : goal.returns-in_err-check_rounds-clause-refused
returns-in_err-check_rounds-clause-refused c =
    let p = err_from_is_err_and c.from_residual.result c.from_residual.ensures.1 in
    rw (p.1, p.2) (no_rounds c.args.plan.now c.args.rounds.now (length c.args.words.now) c.args.nodes.now c.args.fields.now _ c.in_err-check_rounds.ensures.there)

use Rattle.std.proofs.lemmas.Result.{err_from_is_err_and}
use Rattle.app_calls.specs.Answers.{told_by}
use Rattle.app_calls.proofs.replays.write_replay.Goals as goal

pub returns-in_err-told-clause-refused : goal.returns-in_err-told-clause-refused
returns-in_err-told-clause-refused c =
    let p = err_from_is_err_and c.from_residual.result c.from_residual.ensures.1 in
    rw (p.1, p.2) (c.in_err-told.ensures.refused.1 (told_by c.args.report.now c.args.counts.now c.args.words.now) c.args.sizes.now.report c.args.sizes.now.nodes c.args.sizes.now.fields)

use Rattle.std.proofs.Common.{None, Ok, Some, []}
use Rattle.std.proofs.lemmas.Result.{err_from_is_err_and}
use Rattle.headline.proofs.Reported.{is_refusal, is_report}
use Rattle.headline.proofs.threads.run_report.Goals as goal

pub returns-in_err-_served-clause-refused : goal.returns-in_err-_served-clause-refused
returns-in_err-_served-clause-refused g c =
    let told = err_from_is_err_and c.from_residual.result c.from_residual.ensures.1 in
    rw (told.1, told.2) (is_refusal c.args.program.now c.args.network.now c.args.round c.args.workers (Some []) (Some []) (g.W.Write.contents c.args.out.now.inner) (g.W.Write.contents c.serve.new.out.inner) _
    c.in_err-_served.ensures.refused)

pub returns-clause-report : goal.returns-clause-report
returns-clause-report g c = is_report c.args.program.now c.args.network.now c.args.round c.args.workers None None _ _ c.in_ok-_served.ensures.served

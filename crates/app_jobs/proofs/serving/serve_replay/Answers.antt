use Rattle.app_jobs.specs.Served.{given}
use Rattle.std.proofs.lemmas.Result.{err_from_is_err_and}
use Rattle.unison_trace.specs.declared.fault.ReplayFault.TheVariants as replay
use Rattle.app_jobs.specs.declared.job.Job.TheVariants.{Replay}
use Rattle.app_jobs.proofs.Passing.{serve_refusal, not_replay, refused_texts}
use Rattle.app_jobs.proofs.serving.serve_replay.Goals as goal

pub returns-in_err-plan-clause-refused : goal.returns-in_err-plan-clause-refused
returns-in_err-plan-clause-refused g c =
    let p = err_from_is_err_and c.from_residual.result c.from_residual.ensures.1 in
    rw (p.1, p.2) (serve_refusal (Replay c.args.stop) c.args.program.now c.args.network.now (given c.args.from) _ _ _ _ _ (refused_texts (Replay c.args.stop) c.args.program.now c.args.network.now (given c.args.from) _ tt c.in_err-plan.ensures.refused))

pub returns-in_err-plan-clause-read : goal.returns-in_err-plan-clause-read
returns-in_err-plan-clause-read g c =
    let p = err_from_is_err_and c.from_residual.result c.from_residual.ensures.1 in
    let first = p.1 in
    let second = p.2 in
    let off = c.requires.unread in
    (λ t. cc, λ e. absurd (not_replay (Replay c.args.stop) c.args.program.now c.args.network.now (given c.args.from) _ replay.Read (refused_texts (Replay c.args.stop) c.args.program.now c.args.network.now (given c.args.from) _ tt c.in_err-plan.ensures.refused) cc))

pub returns-in_err-plan-clause-turns : goal.returns-in_err-plan-clause-turns
returns-in_err-plan-clause-turns g c =
    let p = err_from_is_err_and c.from_residual.result c.from_residual.ensures.1 in
    let first = p.1 in
    let second = p.2 in
    λ e. absurd (not_replay (Replay c.args.stop) c.args.program.now c.args.network.now (given c.args.from) _ replay.TooManyTurns (refused_texts (Replay c.args.stop) c.args.program.now c.args.network.now (given c.args.from) _ tt c.in_err-plan.ensures.refused) cc)

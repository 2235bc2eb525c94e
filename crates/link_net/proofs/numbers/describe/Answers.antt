use Rattle.std.proofs.Common.{sym}
use Rattle.std.proofs.lemmas.Result.{err_from_is_err_and}
use Rattle.link_net.proofs.Describing.{drawn_refused, opened_refused, drawn_opened}
use Rattle.link_net.proofs.numbers.describe.Goals as goal

pub returns-in_err-network : goal.returns-in_err-network
returns-in_err-network c =
    let p = err_from_is_err_and c.from_residual.result c.from_residual.ensures.1 in
    rw (p.1, p.2) (λ other. drawn_refused c.args.draft c.in_err-network.field-0.0 (c.in_err-network.ensures other))

pub returns-in_err-phase : goal.returns-in_err-phase
returns-in_err-phase c =
    let p = err_from_is_err_and c.from_residual-in_err-phase.result c.from_residual-in_err-phase.ensures.1 in
    rw (p.1, p.2) (λ other. opened_refused c.args.draft c.in_ok-network.network c.in_ok-network.ensures c.in_err-phase.field-0.0 (sym c.in_err-phase.ensures.exact))

pub returns : goal.returns
returns c = rw c.new.ensures (drawn_opened c.args.draft c.in_ok-network.network c.in_ok-network.ensures c.in_ok-phase.phase (sym c.in_ok-phase.ensures.exact))

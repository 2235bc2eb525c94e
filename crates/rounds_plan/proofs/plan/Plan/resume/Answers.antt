use Rattle.std.proofs.Common.{◌≡◌, ◌∙◌, Ok, ap, sym, subst}
use Rattle.std.proofs.lemmas.Result.{err_from_is_err_and}
use Rattle.link_net.specs.Neighbours.{IsNetwork}
use Rattle.rounds_plan.specs.Plans.{PlanView, IsPlan}
use Rattle.rounds_plan.specs.Resume.{from_config, GoesOnAs}
use Rattle.rounds_plan.proofs.Resumed.{goes_on}
use Rattle.rounds_plan.proofs.plan.Plan.resume.Goals as goal
use Rattle.rounds_plan.proofs.plan.Plan.resume.Goals.{In_ok-opening}

made : (c : In_ok-opening)
    → from_config c.args.self c.args.config.now ≡ record { program = c.self.inside.program; network = c.self.inside.network; phase = c.self.inside.phase; opening = c.in_ok-opening.opening.items; start = c.rounds-start.result }
made c =
    let program : c.args.self.program ≡ c.self.inside.program = ap (λ (p : PlanView). p.program) (sym c.self.view_is) in
    let network : c.args.self.network ≡ c.self.inside.network = ap (λ (p : PlanView). p.network) (sym c.self.view_is) in
    let phase : c.args.self.phase ≡ c.self.inside.phase = ap (λ (p : PlanView). p.phase) (sym c.self.view_is) in
    cc (c.in_ok-opening.ensures.states, c.rounds-start.ensures.round)

pub returns-in_err-opening-clause-plan : goal.returns-in_err-opening-clause-plan
returns-in_err-opening-clause-plan c =
    let p = err_from_is_err_and c.from_residual.result c.from_residual.ensures.1 in
    rw (p.1, p.2) (λ other. c.in_err-opening.ensures.fault other)

pub returns-in_err-opening-clause-law : goal.returns-in_err-opening-clause-law
returns-in_err-opening-clause-law c =
    let p = err_from_is_err_and c.from_residual.result c.from_residual.ensures.1 in
    rw p.1 tt

pub invariant_of-result : goal.invariant_of-result
invariant_of-result c = subst IsPlan (made c) c.in_ok-opening.ensures.whole

pub returns-clause-plan : goal.returns-clause-plan
returns-clause-plan c = c.in_ok-opening.ensures.plan ∙ ap Ok (made (goal.at.returns-clause-plan c).In_ok-opening)

pub returns-clause-at_once : goal.returns-clause-at_once
returns-clause-at_once c = rw c.in_ok-opening.ensures.plan tt

pub returns-clause-law : goal.returns-clause-law
returns-clause-law c =
    let b = (goal.at.returns-clause-law c).In_ok-opening in
    let network : c.args.self.network ≡ c.self.inside.network = ap (λ (p : PlanView). p.network) (sym c.self.view_is) in
    subst (GoesOnAs c.args.self c.args.config.now) (made b) (goes_on c.args.self c.args.config.now (subst IsNetwork (sym network) c.self.invariant.network))

use Rattle.std.proofs.Common.{◌≡◌, ◌≤◌, ap, arith, sym, ◌∙◌}
use Rattle.std.specs.Prelude.{Ok}
use Rattle.rounds_plan.specs.Lockstep.{rounds_of, lockstep_config}
use Rattle.rounds_plan.specs.Plans.{PlanView}
use Rattle.rounds_walk.specs.Walking.{RoundView}
use Rattle.lockstep.proofs.RoundAnswers.{round_there, memory_answer}
use Rattle.lockstep.proofs.rounds.lockstep.Goals as goal

pub returns-clause-exact : goal.returns-clause-exact
returns-clause-exact c =
    let a = c.args in
    let config = λ (v : RoundView). lockstep_config v.plan v.round in
    let from : c.in_ok-walk.walk.plan ≡ a.plan.now = ap (λ (v : RoundView). v.plan) c.in_ok-walk.ensures.start ∙ c.in_ok-start.ensures.plan ∙ c.of_plan.ensures.plan in
    let is : c.in_ok-config.field-0 ≡ lockstep_config a.plan.now a.rounds =
    c.in_ok-config.ensures.exact ∙ ap config c.go_to.ensures.there ∙ ap (λ (p : PlanView). lockstep_config p a.rounds) from in
    let late : a.plan.now.start ≤ a.rounds = omega (arith, c.in_ok-check_round.ensures.there.0, c.start.ensures.start) in
    round_there a.plan.now a.rounds late c.in_ok-check_round.ensures.there.1 ∙ ap Ok (sym is)

pub returns-in_err-config-clause-exact : goal.returns-in_err-config-clause-exact
returns-in_err-config-clause-exact c = memory_answer (rounds_of c.args.plan.now c.args.rounds) c.from_residual-in_err-config.result c.from_residual-in_err-config.ensures.1

use Rattle.std.proofs.Common.{◌∙◌, ap, length}
use Rattle.rounds_plan.specs.Lockstep.{lockstep_states}
use Rattle.rounds_plan.specs.Plans.{PlanView}
use Rattle.rounds_walk.specs.Walking.{RoundView}
use Rattle.app_calls.proofs.large.rounds.states_after.Goals as goal

pub returns : goal.returns
returns c =
    let at = c.args.round in
    record {
      states = c.in_ok-states.ensures.exact
          ∙ ap (λ (v : RoundView). lockstep_states v.plan v.round (length v.plan.network)) c.go_to.ensures.there
          ∙ ap (λ (v : RoundView). lockstep_states v.plan at (length v.plan.network)) c.in_ok-walk.ensures.start
          ∙ ap (λ (p : PlanView). lockstep_states p at (length p.network)) c.in_ok-plan.ensures.plan;
    }

use Rattle.std.proofs.Common.{◌∙◌, ap}
use Rattle.rounds_plan.specs.Lockstep.{lockstep_config}
use Rattle.rounds_walk.specs.Walking.{RoundView}
use Rattle.app_calls.proofs.Listed.{lockstep_count}
use Rattle.app_calls.proofs.rounds.add_round.Goals as goal

pub returns-clause-count : goal.returns-clause-count
returns-clause-count c =
    let is = c.in_ok-config.ensures.exact ∙ ap (λ (v : RoundView). lockstep_config v.plan v.round) c.go_to.ensures.there in
    lockstep_count c.args.walk.now.plan c.args.round c.in_ok-config.config is c.in_ok-add_config.ensures.count

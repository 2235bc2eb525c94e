use Rattle.std.proofs.Common.{◌≡◌, ◌∙◌, ap, arith, length}
use Rattle.rounds_plan.specs.Lockstep.{lockstep_states}
use Rattle.rounds_walk.specs.Walking.{RoundView}
use Rattle.app_calls.proofs.Moves.{round_count}
use Rattle.app_calls.proofs.Watches.{config_count}
use Rattle.app_calls.proofs.large.told.add_round.Goals as goal

pub add_told-requires-clause-few : goal.add_told-requires-clause-few
add_told-requires-clause-few c =
    let p = c.args.walk.now.plan in
    let made = c.deref.ensures.value ∙ c.in_ok-states.ensures.exact ∙ ap (λ (v : RoundView). lockstep_states v.plan v.round (length v.plan.network)) c.go_to.ensures.there in
    let count : length c.deref.result.now ≡ length p.network = round_count p c.args.round (length p.network) c.deref.result.now made in
    omega (arith, count, c.requires.nodes)

pub returns-clause-count : goal.returns-clause-count
returns-clause-count c =
    let made = c.deref.ensures.value ∙ c.in_ok-states.ensures.exact ∙ ap (λ (v : RoundView). lockstep_states v.plan v.round (length v.plan.network)) c.go_to.ensures.there in
    config_count c.args.telling c.args.walk.now.plan c.args.round c.args.fields c.deref.result.now made c.requires.fields c.in_ok-add_told.ensures.count

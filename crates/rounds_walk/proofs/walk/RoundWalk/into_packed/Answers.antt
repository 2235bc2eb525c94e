use Rattle.std.proofs.Common.{◌≡◌, ◌∙◌, ap, length, map, subst}
use Rattle.link_net.specs.Neighbours.{Neighbours, numbers_below}
use Rattle.rounds_blocks.specs.Walks.{state_by}
use Rattle.rounds_plan.specs.Lockstep.{lockstep_states}
use Rattle.rounds_walk.specs.Walking.{RoundView}
use Rattle.rounds_walk.proofs.Held.{held_states}
use Rattle.rounds_walk.proofs.walk.RoundWalk.into_packed.Goals as goal

pub returns : goal.returns
returns c =
    let s = c.self.inside in
    let p = s.start.now in
    let walk = s.states in
    let made = c.into_packed.ensures.exact
    ∙ ap (λ (n : Neighbours). map (state_by walk.words) (numbers_below (length n))) c.self.invariant.held.network
    ∙ held_states p s.round walk c.self.invariant.held in
    record { exact = subst (λ (v : RoundView). c.into_packed.result ≡ lockstep_states v.plan v.round (length v.plan.network)) c.self.view_is made }

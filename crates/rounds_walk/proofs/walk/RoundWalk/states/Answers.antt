use Rattle.std.proofs.Common.{◌≡◌, ◌∙◌, All, ap, length, map, subst}
use Rattle.rule_check.specs.Value.{Rules}
use Rattle.link_net.specs.Neighbours.{Neighbours, numbers_below}
use Rattle.rounds_blocks.specs.Walks.{state_by}
use Rattle.rounds_plan.specs.Configs.{IsPlain}
use Rattle.rounds_plan.specs.Lockstep.{lockstep_states}
use Rattle.rounds_walk.specs.Walking.{RoundView}
use Rattle.rounds_walk.proofs.Held.{held_states}
use Rattle.rounds_walk.proofs.walk.RoundWalk.states.Goals as goal

pub returns : goal.returns
returns c =
    let s = c.self.inside in
    let p = s.start.now in
    let walk = s.states in
    let made = c.in_ok-states.ensures.exact
    ∙ ap (λ (n : Neighbours). map (state_by walk.words) (numbers_below (length n))) c.self.invariant.held.network
    ∙ held_states p s.round walk c.self.invariant.held in
    let plain = subst (λ (r : Rules). All (IsPlain (length r.fields)) c.in_ok-states.states.items) c.self.invariant.held.rules c.in_ok-states.ensures.plain in
    record {
      exact = subst (λ (v : RoundView). c.in_ok-states.states.items ≡ lockstep_states v.plan v.round (length v.plan.network)) c.self.view_is made;
      plain = subst (λ (v : RoundView). All (IsPlain (length v.plan.program.fields)) c.in_ok-states.states.items) c.self.view_is plain;
    }

-- A plan that goes on has the old plan's rounds.
use Rattle.std.proofs.Common.{◌≡◌, ℕ, zero, suc, ◌+◌, ◌-◌, ◌<◌, ◌≤◌, length, sym, subst, ◌∙◌, arith}
use Rattle.link_net.specs.Neighbours.{IsNetwork}
use Rattle.rounds_plan.specs.Configs.{Configuration}
use Rattle.rounds_plan.specs.Plans.{PlanView}
use Rattle.rounds_plan.specs.Lockstep.{lockstep, lockstep_states, lockstep-start, lockstep-more}
use Rattle.rounds_plan.specs.Resume.{from_config, GoesOnAs}
use Rattle.rounds_plan.proofs.Nears.{round_agrees, states_at}

module _ (old : PlanView) (c : Configuration) (network : IsNetwork old.network) (late : old.start ≤ c.rounds) (made : c.states ≡ lockstep_states old c.rounds (length old.network)) where
  so_many_on : (k u : ℕ) → u < length old.network → lockstep (from_config old c) (c.rounds + k) u ≡ lockstep old (c.rounds + k) u
  so_many_on zero u inside =
      let e : c.rounds + 0 ≡ c.rounds = omega arith in
      subst (λ t. lockstep (from_config old c) t u ≡ lockstep old t u) (sym e)
      (lockstep-start (from_config old c) u ∙ states_at old c.rounds c.states u made inside)
  so_many_on (suc k) u inside =
      let e : c.rounds + suc k ≡ c.rounds + k + 1 = omega arith in
      let new_late : (from_config old c).start ≤ c.rounds + k = omega arith in
      let old_late : old.start ≤ c.rounds + k = omega arith in
      subst (λ t. lockstep (from_config old c) t u ≡ lockstep old t u) (sym e)
      (lockstep-more (from_config old c) (c.rounds + k) u new_late
      ∙ round_agrees old (c.rounds + k) (lockstep (from_config old c) (c.rounds + k)) (lockstep old (c.rounds + k)) u network.within (λ w h. so_many_on k w h) inside
      ∙ sym (lockstep-more old (c.rounds + k) u old_late))

pub goes_on : (old : PlanView) (c : Configuration) → IsNetwork old.network → GoesOnAs old c (from_config old c)
goes_on old c network late made t u after inside =
    let back : c.rounds + (t - c.rounds) ≡ t = omega arith in
    subst (λ r. lockstep (from_config old c) r u ≡ lockstep old r u) back (so_many_on old c network late made (t - c.rounds) u inside)

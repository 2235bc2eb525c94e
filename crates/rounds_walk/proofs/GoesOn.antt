-- A plan that opens with the states of another plan's round has the other's rounds.
use Rattle.std.proofs.Common.{◌≡◌, ℕ, zero, suc, ◌+◌, ◌-◌, ◌<◌, ◌≤◌, length, sym, subst, ap, ◌∙◌, arith, zero-add}
use Rattle.std.proofs.lemmas.List.{ext_get_or}
use Rattle.std.proofs.lemmas.List.FromFn.{get_or-map-range_with_len, length-map-range_with_len}
use Rattle.rule_check.specs.Value.{Rules}
use Rattle.link_net.specs.Neighbours.{Neighbours}
use Rattle.rounds_plan.specs.Configs.{blank}
use Rattle.rounds_plan.specs.Plans.{PlanView}
use Rattle.rounds_plan.specs.Rounds.{round_from}
use Rattle.rounds_plan.specs.Lockstep.{lockstep, lockstep_states, lockstep-start, lockstep-more}
use Rattle.rounds_plan.proofs.Nears.{AreWithin, round_agrees, states_at}
use Rattle.rounds_walk.specs.GoingOn.{GoesOnFromStates}

module _ (old new : PlanView) (within : AreWithin old.network) (program : new.program ≡ old.program) (network : new.network ≡ old.network) (late : old.start ≤ new.start) (made : new.opening ≡ lockstep_states old new.start (length old.network)) where
  so_many_on : (k u : ℕ) → u < length old.network → lockstep new (new.start + k) u ≡ lockstep old (new.start + k) u
  so_many_on zero u inside =
      let e : new.start + 0 ≡ new.start = omega arith in
      subst (λ (t : ℕ). lockstep new t u ≡ lockstep old t u) (sym e)
      (lockstep-start new u ∙ states_at old new.start new.opening u made inside)
  so_many_on (suc k) u inside =
      let e : new.start + suc k ≡ new.start + k + 1 = omega arith in
      let new_late : new.start ≤ new.start + k = omega arith in
      let old_late : old.start ≤ new.start + k = omega arith in
      subst (λ (t : ℕ). lockstep new t u ≡ lockstep old t u) (sym e)
      (lockstep-more new (new.start + k) u new_late
      ∙ ap (λ (r : Rules). round_from r new.network (new.start + k) (lockstep new (new.start + k)) u) program
      ∙ ap (λ (n : Neighbours). round_from old.program n (new.start + k) (lockstep new (new.start + k)) u) network
      ∙ round_agrees old (new.start + k) (lockstep new (new.start + k)) (lockstep old (new.start + k)) u within (λ w h. so_many_on k w h) inside
      ∙ sym (lockstep-more old (new.start + k) u old_late))

  goes_on_at : (t u : ℕ) → new.start ≤ t → u < length old.network → lockstep new t u ≡ lockstep old t u
  goes_on_at t u after inside =
      let back : new.start + (t - new.start) ≡ t = omega arith in
      subst (λ (r : ℕ). lockstep new r u ≡ lockstep old r u) back (so_many_on (t - new.start) u inside)

pub goes_on : GoesOnFromStates
goes_on old new t whole program network late made after =
    let n = length old.network in
    ap (λ (rows : Neighbours). lockstep_states new t (length rows)) network
    ∙ ext_get_or blank (lockstep_states new t n) (lockstep_states old t n)
    (length-map-range_with_len (lockstep new t) 0 n ∙ sym (length-map-range_with_len (lockstep old t) 0 n))
    (λ u h.
    let inside : u < n = omega (arith, h, length-map-range_with_len (lockstep new t) 0 n) in
    get_or-map-range_with_len (lockstep new t) 0 n u u blank inside (zero-add u)
    ∙ goes_on_at old new whole.network.within program network late made t u after inside
    ∙ sym (get_or-map-range_with_len (lockstep old t) 0 n u u blank inside (zero-add u)))

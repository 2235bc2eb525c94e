-- A round that changes nothing is the last one that changes anything.
use Rattle.std.proofs.Common.{◌≡◌, ℕ, zero, suc, ◌+◌, ◌-◌, ◌<◌, ◌≤◌, false, length, sym, subst, ap, ◌∙◌, arith, refl, zero-add}
use Rattle.std.proofs.lemmas.List.{ext_get_or}
use Rattle.std.proofs.lemmas.List.FromFn.{get_or-map-range_with_len, length-map-range_with_len}
use Rattle.rule_check.specs.Rounds.{reads_round}
use Rattle.rule_check.proofs.AnyRound.{next_state-any_round}
use Rattle.rounds_plan.specs.Rounds.{nears_in}
use Rattle.rounds_blocks.specs.Walks.{Walked, state_by}
use Rattle.rounds_blocks.proofs.Resting.{rests}
use Rattle.rounds_plan.specs.Configs.{blank}
use Rattle.rounds_plan.specs.Lockstep.{lockstep, lockstep_states, lockstep-more}
use Rattle.rounds_plan.specs.Plans.{PlanView}
use Rattle.rounds_walk.specs.Stays.{StaysAsItIs, RestsWhereNothingMoved}
use Rattle.rounds_walk.specs.Walking.{HasRound}
use Rattle.rounds_plan.proofs.Nears.{AreWithin, round_agrees, states_at}

module _ (p : PlanView) (t : ℕ) (within : AreWithin p.network) (unread : reads_round p.program ≡ false) (late : p.start ≤ t) (still : (u : ℕ) → u < length p.network → lockstep p (t + 1) u ≡ lockstep p t u) where
  so_many_on : (k u : ℕ) → u < length p.network → lockstep p (t + k) u ≡ lockstep p t u
  so_many_on zero u inside =
      let e : t + 0 ≡ t = omega arith in
      ap (λ r. lockstep p r u) e
  so_many_on (suc k) u inside =
      let e : t + suc k ≡ t + k + 1 = omega arith in
      let after : p.start ≤ t + k = omega arith in
      ap (λ r. lockstep p r u) e
      ∙ lockstep-more p (t + k) u after
      ∙ round_agrees p (t + k) (lockstep p (t + k)) (lockstep p t) u within (λ w h. so_many_on k w h) inside
      ∙ next_state-any_round p.program (t + k) t u (lockstep p t u) (nears_in p.network (lockstep p t) u) unread
      ∙ sym (lockstep-more p t u late)
      ∙ still u inside

  stays_at : (later u : ℕ) → t ≤ later → u < length p.network → lockstep p later u ≡ lockstep p t u
  stays_at later u after inside =
      let back : t + (later - t) ≡ later = omega arith in
      subst (λ r. lockstep p r u ≡ lockstep p t u) back (so_many_on (later - t) u inside)

pub stays_as_it_is : StaysAsItIs
stays_as_it_is p t later network unread late same after =
    let n = length p.network in
    let still = λ (u : ℕ) (inside : u < n).
    sym (states_at p (t + 1) (lockstep_states p (t + 1) n) u refl inside) ∙ states_at p t (lockstep_states p (t + 1) n) u same inside in
    ext_get_or blank (lockstep_states p later n) (lockstep_states p t n)
    (length-map-range_with_len (lockstep p later) 0 n ∙ sym (length-map-range_with_len (lockstep p t) 0 n))
    (λ u h.
    let inside : u < n = omega (arith, h, length-map-range_with_len (lockstep p later) 0 n) in
    get_or-map-range_with_len (lockstep p later) 0 n u u blank inside (zero-add u)
    ∙ stays_at p t network.within unread late still later u after inside
    ∙ sym (get_or-map-range_with_len (lockstep p t) 0 n u u blank inside (zero-add u)))

-- a round that changes nothing has the states of all later rounds
pub held_still : (p : PlanView) (t later : ℕ) (old new : Walked) → AreWithin p.network → reads_round p.program ≡ false → p.start ≤ t → t ≤ later → HasRound p t old → HasRound p (t + 1) new
    → ((u : ℕ) → u < length old.network → state_by new.words u ≡ state_by old.words u) → HasRound p later new
held_still p t later old new within unread late after held next rests =
    let same = λ (u : ℕ) (inside : u < length p.network).
    let low : u < length old.network = omega (arith, inside, ap length held.network) in
    rests u low ∙ held.states u inside in
    record {
      rules = next.rules;
      network = next.network;
      states = λ u inside. same u inside ∙ sym (stays_at p t within unread late (λ w h. sym (next.states w h) ∙ same w h) later u after inside);
    }

-- a node does not change where neither it nor a neighbour of it changed in the last round
pub rests_where_nothing_moved : RestsWhereNothingMoved
rests_where_nothing_moved p t u unread late same nears =
    let e : t + 2 ≡ t + 1 + 1 = omega arith in
    let after : p.start ≤ t + 1 = omega (arith, late) in
    ap (λ r. lockstep p r u) e
    ∙ lockstep-more p (t + 1) u after
    ∙ rests p.program p.network t (t + 1) (lockstep p t) (lockstep p (t + 1)) u unread (lockstep-more p t u late) same nears

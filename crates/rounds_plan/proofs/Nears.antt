-- What a round depends on.
use Rattle.std.proofs.Common.{◌≡◌, ℕ, ◌<◌, List, length, ap, ◌∙◌, sym, arith, zero-add}
use Rattle.std.proofs.lemmas.List.{ext_get_or}
use Rattle.std.proofs.lemmas.List.FromFn.{get_or-map-range_with_len, length-map-range_with_len}
use Rattle.rule_check.specs.declared.state.State.{State}
use Rattle.rule_check.specs.Value.{next_state}
use Rattle.link_net.specs.Neighbours.{Neighbours, row, degree, neighbour}
use Rattle.rounds_plan.specs.Rounds.{nears_in, round_from}
use Rattle.rounds_plan.proofs.SameNears.{near_same}
use Rattle.rounds_plan.specs.Configs.{blank}
use Rattle.rounds_plan.specs.Plans.{PlanView}
use Rattle.rounds_plan.specs.Lockstep.{state_in, lockstep, lockstep_states, lockstep-start}

-- each neighbour is a node, as in a network file and in rows of any size
abbrev pub AreWithin : Neighbours → Type 0
AreWithin network = (u j : ℕ) → j < degree network u → neighbour network u j < length network

-- a round depends on the states of nodes alone
pub round_agrees : (p : PlanView) (t : ℕ) (f g : ℕ → State) (u : ℕ) → AreWithin p.network → ((w : ℕ) → w < length p.network → f w ≡ g w) → u < length p.network → round_from p.program p.network t f u ≡ round_from p.program p.network t g u
round_agrees p t f g u within same inside =
    ap (λ s. next_state p.program t u s (nears_in p.network f u)) (same u inside)
    ∙ ap (next_state p.program t u (g u)) (near_same f g (row p.network u) (λ j h. same (neighbour p.network u j) (within u j h)))

-- the states of a round in a list are those of its nodes
pub states_at : (p : PlanView) (t : ℕ) (states : List State) (w : ℕ) → states ≡ lockstep_states p t (length p.network) → w < length p.network → state_in states w ≡ lockstep p t w
states_at p t states w made inside = ap (λ ss. state_in ss w) made ∙ get_or-map-range_with_len (lockstep p t) 0 (length p.network) w w blank inside (zero-add w)

-- the opening states are those of the start
pub states_start : (p : PlanView) (n : ℕ) → length p.opening ≡ n → p.opening ≡ lockstep_states p p.start n
states_start p n count =
    ext_get_or blank p.opening (lockstep_states p p.start n) (count ∙ sym (length-map-range_with_len (lockstep p p.start) 0 n))
    (λ u h. sym (lockstep-start p u) ∙ sym (get_or-map-range_with_len (lockstep p p.start) 0 n u u blank (omega (arith, h, count)) (zero-add u)))

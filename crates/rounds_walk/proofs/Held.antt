-- Walks that have the states of a round.
use Rattle.std.proofs.Common.{◌≡◌, ℕ, ◌+◌, ◌<◌, ◌≤◌, List, length, map, sym, ap, ◌∙◌, arith, zero-add, slice_index_or}
use Rattle.std.proofs.lemmas.List.{ext_get_or}
use Rattle.std.proofs.lemmas.List.FromFn.{get_or-map-range_with_len, length-map-range_with_len}
use Rattle.rule_check.specs.declared.state.State.{State}
use Rattle.rule_check.specs.Value.{Rules}
use Rattle.link_net.specs.Neighbours.{Neighbours, numbers_below}
use Rattle.rounds_plan.specs.Rounds.{round_from}
use Rattle.rounds_blocks.specs.Walks.{Walked, state_by}
use Rattle.rounds_plan.specs.Configs.{Configuration, blank}
use Rattle.rounds_plan.specs.Lockstep.{state_in, lockstep, lockstep_states, lockstep_config, lockstep-start, lockstep-more}
use Rattle.rounds_plan.specs.Plans.{PlanView}
use Rattle.rounds_walk.specs.Walking.{HasRound}
use Rattle.rounds_plan.proofs.Nears.{AreWithin, round_agrees}

abbrev config_by : ℕ → ℕ → List State → Configuration
config_by fields rounds states = record { rounds = rounds; fields = fields; states = states }

-- a walk from the opening states on has the states of the start
pub opening_held : (p : PlanView) (walk : Walked) (states : List State) (n : ℕ) → states ≡ p.opening → n ≡ length p.network → walk.rules ≡ p.program → walk.network ≡ p.network
    → ((u : ℕ) (d : State) → u < n → state_by walk.words u ≡ slice_index_or states u d) → HasRound p p.start walk
opening_held p walk states n are count rules network held = record {
  rules = rules;
  network = network;
  states = λ u inside.
      held u blank (omega (arith, inside, count))
      ∙ ap (λ (ss : List State). state_in ss u) are
      ∙ sym (lockstep-start p u);
}

-- a round takes the states of a round to those of the next
pub held_more : (p : PlanView) (t : ℕ) (old new : Walked) → AreWithin p.network → p.start ≤ t → HasRound p t old → new.rules ≡ old.rules → new.network ≡ old.network
    → ((u : ℕ) → u < length old.network → state_by new.words u ≡ round_from old.rules old.network t (state_by old.words) u) → HasRound p (t + 1) new
held_more p t old new within late held rules_are network_is next = record {
  rules = rules_are ∙ held.rules;
  network = network_is ∙ held.network;
  states = λ u inside.
      next u (omega (arith, inside, ap length held.network))
      ∙ ap (λ (r : Rules). round_from r old.network t (state_by old.words) u) held.rules
      ∙ ap (λ (n : Neighbours). round_from p.program n t (state_by old.words) u) held.network
      ∙ round_agrees p t (state_by old.words) (lockstep p t) u within held.states inside
      ∙ sym (lockstep-more p t u late);
}

-- the states of the walk are those of the round
pub held_states : (p : PlanView) (t : ℕ) (walk : Walked) → HasRound p t walk → map (state_by walk.words) (numbers_below (length p.network)) ≡ lockstep_states p t (length p.network)
held_states p t walk held =
    let n = length p.network in
    ext_get_or blank (map (state_by walk.words) (numbers_below n)) (lockstep_states p t n)
    (length-map-range_with_len (state_by walk.words) 0 n ∙ sym (length-map-range_with_len (lockstep p t) 0 n))
    (λ u h.
    let inside : u < n = omega (arith, h, length-map-range_with_len (state_by walk.words) 0 n) in
    get_or-map-range_with_len (state_by walk.words) 0 n u u blank inside (zero-add u)
    ∙ held.states u inside
    ∙ sym (get_or-map-range_with_len (lockstep p t) 0 n u u blank inside (zero-add u)))

-- a configuration with these states is that of the round
pub config_is : (p : PlanView) (r t : ℕ) (states : List State) (c : Configuration) → c ≡ record { rounds = r; fields = length p.program.fields; states = states } → r ≡ t → states ≡ lockstep_states p t (length p.network) → c ≡ lockstep_config p t
config_is p r t states c parts round made =
    parts
    ∙ ap (λ (n : ℕ). config_by (length p.program.fields) n states) round
    ∙ ap (config_by (length p.program.fields) t) made

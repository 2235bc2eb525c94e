-- Rounds with the same states.
use Rattle.std.proofs.Common.{◌≡◌, ℕ, ◌<◌, length, sym, ◌∙◌, refl, arith, zero-add}
use Rattle.std.proofs.lemmas.List.{ext_get_or}
use Rattle.std.proofs.lemmas.List.FromFn.{get_or-map-range_with_len, length-map-range_with_len}
use Rattle.rounds_blocks.specs.Walks.{Walked, state_by}
use Rattle.rounds_plan.specs.Configs.{blank}
use Rattle.rounds_plan.specs.Lockstep.{lockstep, lockstep_states}
use Rattle.rounds_plan.specs.Plans.{PlanView}
use Rattle.rounds_walk.specs.Walking.{AreAlike, HasRound}
use Rattle.rounds_plan.proofs.Nears.{states_at}

-- they are alike where each node's are
pub alike_of : (p : PlanView) (s t : ℕ) → ((u : ℕ) → u < length p.network → lockstep p s u ≡ lockstep p t u) → AreAlike p s t
alike_of p s t each =
    let n = length p.network in
    ext_get_or blank (lockstep_states p s n) (lockstep_states p t n)
    (length-map-range_with_len (lockstep p s) 0 n ∙ sym (length-map-range_with_len (lockstep p t) 0 n))
    (λ u h.
    let inside : u < n = omega (arith, h, length-map-range_with_len (lockstep p s) 0 n) in
    get_or-map-range_with_len (lockstep p s) 0 n u u blank inside (zero-add u)
    ∙ each u inside
    ∙ sym (get_or-map-range_with_len (lockstep p t) 0 n u u blank inside (zero-add u)))

-- and each node's are, where they are alike
pub each_alike : (p : PlanView) (s t : ℕ) → AreAlike p s t → (u : ℕ) → u < length p.network → lockstep p s u ≡ lockstep p t u
each_alike p s t same u inside =
    let n = length p.network in
    sym (states_at p s (lockstep_states p s n) u refl inside) ∙ states_at p t (lockstep_states p s n) u same inside

-- walks with the same states stand at rounds that are alike
pub held_alike : (p : PlanView) (s t : ℕ) (one other : Walked) → HasRound p s one → HasRound p t other
    → ((u : ℕ) → u < length p.network → state_by one.words u ≡ state_by other.words u) → AreAlike p s t
held_alike p s t one other held beside same = alike_of p s t (λ u inside. sym (held.states u inside) ∙ same u inside ∙ beside.states u inside)

-- and such walks have the same states
pub alike_held : (p : PlanView) (s t : ℕ) (one other : Walked) → HasRound p s one → HasRound p t other → AreAlike p s t
    → (u : ℕ) → u < length p.network → state_by one.words u ≡ state_by other.words u
alike_held p s t one other held beside same u inside = held.states u inside ∙ each_alike p s t same u inside ∙ sym (beside.states u inside)

-- The words after the fields are 0 in every lockstep state.
use Rattle.std.proofs.Common.{◌≡◌, ℕ, zero, suc, ◌+◌, ◌-◌, ◌<◌, ◌≤◌, All, List, [], ◌∷◌, ◌++◌, length, map, take, replicate, get_or, sym, refl, ap, ◌∙◌, ⊎_elim, arith, zero-add, subst}
use Rattle.std.proofs.lemmas.List.{length-map, get_or_past, get_or-map, ext_get_or}
use Rattle.std.proofs.lemmas.List.FromFn.{get_or-map-range_with_len, length-map-range_with_len}
use Rattle.std.proofs.lemmas.Bool.{cases_lt}
use Rattle.rule_check.specs.declared.state.State.{State}
use Rattle.rule_check.specs.Value.{Rules, Here, here_at, updated, cleared, next_at, next_word, names_of}
use Rattle.rounds_plan.specs.Configs.{blank, IsPlain}
use Rattle.rounds_plan.specs.Plans.{PlanView}
use Rattle.rounds_plan.specs.Starts.{IsSimplePlan}
use Rattle.rounds_plan.specs.Lockstep.{after, lockstep, lockstep_states, nears_in}
use Rattle.unison_world.specs.declared.node.Node.{Node}
use Rattle.unison_world.specs.Counting.{moves_of}
use Rattle.unison_world.specs.Pictures.{counts_of, IsDrawn}
use Rattle.unison_world.proofs.Sights.{moves_at}
use Rattle.unison_world.proofs.Wholes.{node_at}
use Rattle.std.proofs.lemmas.Option.{get_or_from_slice_get}

updated_past : {A : Type 0} (f : A → ℕ → ℕ) (xs : List A) (ws : List ℕ) (k : ℕ) → length xs ≤ k → get_or (updated f xs ws) k 0 ≡ get_or ws k 0
updated_past f [] ws k h = refl
updated_past f (x ∷ xs) [] k h = refl
updated_past f (x ∷ xs) (w ∷ ws) zero h = absurd (omega arith)
updated_past f (x ∷ xs) (w ∷ ws) (suc k) h = updated_past f xs ws k (omega arith)

zeros_past : (m k : ℕ) → get_or (replicate {A = ℕ} m 0) k 0 ≡ 0
zeros_past zero k = refl
zeros_past (suc m) zero = refl
zeros_past (suc m) (suc k) = zeros_past m k

cleared_past : (n m : ℕ) (ws : List ℕ) (k : ℕ) → n ≤ k → get_or (take n ws ++ replicate m 0) k 0 ≡ 0
cleared_past zero m ws k h = zeros_past m k
cleared_past (suc n) m [] k h = zeros_past m k
cleared_past (suc n) m (w ∷ ws) zero h = absurd (omega arith)
cleared_past (suc n) m (w ∷ ws) (suc k) h = cleared_past n m ws k (omega arith)

plain_next : (rules : Rules) (here : Here) → IsPlain (length rules.fields) (next_at rules here)
plain_next rules here k h =
    updated_past (next_word rules here) (names_of rules) (cleared (length rules.fields) here.own.words) k (omega (arith, h, length-map rules.fields (λ f. f.name)))
    ∙ cleared_past (length rules.fields) (8 - length rules.fields) here.own.words k h

plain_after : (p : PlanView) (n u : ℕ) → IsSimplePlan p → IsPlain (length p.program.fields) (after p n u)
unfolding after
plain_after p zero u whole =
    ⊎_elim
    (λ h. whole.plain u blank h)
    (λ h. (λ k e. ap (λ (s : State). get_or s.words k 0) (get_or_past p.opening u blank h) ∙ zeros_past 8 k))
    (cases_lt u (length p.opening))
plain_after p (suc n) u whole =
    plain_next p.program (here_at p.program (p.start + n) u (length (nears_in p.network (after p n) u)) (after p n u) (nears_in p.network (after p n) u))

pub plain_lockstep : (p : PlanView) (t u : ℕ) → IsSimplePlan p → IsPlain (length p.program.fields) (lockstep p t u)
unfolding lockstep
plain_lockstep p t u whole = plain_after p (t - p.start) u whole

abbrev shown : Node → State
shown n = n.register.current

-- the states of nodes that stand at the stop are the lockstep states of it
pub states_at_stop : (plan : PlanView) (stop : ℕ) (nodes : List Node) → IsDrawn plan nodes → ((u : ℕ) → u < length nodes → moves_of (counts_of nodes) u ≡ stop)
    → map (λ (n : Node). n.register.current) nodes ≡ lockstep_states plan stop (length plan.network)
states_at_stop plan stop nodes d at_stop =
    ext_get_or blank (map shown nodes) (lockstep_states plan stop (length plan.network))
    (length-map nodes shown ∙ d.one_each ∙ sym (length-map-range_with_len (lockstep plan stop) 0 (length plan.network)))
    (λ u h.
    let inside : u < length nodes = omega (arith, h, length-map nodes shown) in
    let n = node_at nodes u inside in
    let m = sym (moves_at nodes u n.0 n.1) ∙ at_stop u inside in
    get_or-map shown nodes u n.0 blank inside
    ∙ ap shown (get_or_from_slice_get nodes u n.0 n.0 n.1)
    ∙ (d.each u n.0 n.1).current
    ∙ ap (λ t. lockstep plan t u) m
    ∙ sym (get_or-map-range_with_len (lockstep plan stop) 0 (length plan.network) u u blank (omega (arith, inside, d.one_each)) (zero-add u)))

pub plain_states : (plan : PlanView) (stop : ℕ) (states : List State) → IsSimplePlan plan → states ≡ lockstep_states plan stop (length plan.network) → All (IsPlain (length plan.program.fields)) states
plain_states plan stop states whole e k d h =
    let n = length plan.network in
    let inside : k < n = omega (arith, h, ap length e, length-map-range_with_len (lockstep plan stop) 0 n) in
    let is : get_or states k d ≡ lockstep plan stop k = ap (λ (ss : List State). get_or ss k d) e ∙ get_or-map-range_with_len (lockstep plan stop) 0 n k k d inside (zero-add k) in
    rw is (plain_lockstep plan stop k whole)

-- the same by an equal plan
pub finished_states : (plan other : PlanView) (stop : ℕ) (nodes : List Node) (states : List State) → plan ≡ other → IsDrawn plan nodes → ((u : ℕ) → u < length nodes → moves_of (counts_of nodes) u ≡ stop)
    → states ≡ map (λ (n : Node). n.register.current) nodes → All (IsPlain (length other.program.fields)) states × (states ≡ lockstep_states other stop (length other.network))
finished_states plan other stop nodes states same d at_stop made =
    let e : states ≡ lockstep_states plan stop (length plan.network) = made ∙ states_at_stop plan stop nodes d at_stop in (
      subst (λ (p : PlanView). All (IsPlain (length p.program.fields)) states) same (plain_states plan stop states d.well_formed e),
      subst (λ (p : PlanView). states ≡ lockstep_states p stop (length p.network)) same e,
    )

-- Where nothing changes any more.
use Rattle.std.proofs.Common.{◌≡◌, ◌≢◌, ◌⊎◌, ℕ, zero, suc, ◌+◌, ◌<◌, ◌≤◌, true, false, List, [], ◌∷◌, ◌++◌, length, length-append, sym, refl, ap, ◌∙◌, ⊎_elim, arith, nat_lt}
use Rattle.std.proofs.lemmas.Bool.{cases_lt, false≢true}
use Rattle.std.proofs.lemmas.Bool.Decides.{nat_tests, Decides-below_and}
use Rattle.link_net.specs.Neighbours.{Neighbours, IsNetwork, degree, neighbour}
use Rattle.rounds_plan.specs.Plans.{PlanView, IsPlan}
use Rattle.link_net.proofs.Simples.{network_simple}
use Rattle.unison_world.specs.declared.step.Step.{Step}
use Rattle.unison_world.specs.declared.step.Step.TheVariants.{Read, Write}
use Rattle.unison_world.specs.declared.step.Answer.TheVariants.{Taken}
use Rattle.unison_world.specs.Counting.{Counts, moves_of, is_marked, all_marked, answer_of, after, HasShape, InStep}
use Rattle.unison_world.specs.Turns.{neighbours_of, any_behind}
use Rattle.unison_world.proofs.Sights.{cases_bool, lt_false}
use Rattle.unison_world.proofs.Steps.{shape-after, in_step-after}
use Rattle.unison_world.proofs.Turnings.{any-finds, neighbour_is, neighbours_many, turn-moves, turn-free}
use Rattle.unison_world.proofs.Writes.{answer-ready}
use Rattle.unison_trace.specs.Histories.{LeadTo, is_change}
use Rattle.unison_trace.specs.Traces.{needed}
use Rattle.unison_trace.proofs.Leading.{lead-more, length-lead, whole-trace}
use Rattle.run_schedule.specs.Lists.{IsStepList, GoesToStop}

pub answer-fresh : (network : Neighbours) (stop : ℕ) (c : Counts) (u j : ℕ) → u < length network → j < degree network u → moves_of c u ≢ stop → moves_of c u ≤ moves_of c (neighbour network u j) → is_marked c u j ≡ false → answer_of network stop c (Read u j) ≡ Taken
answer-fresh network stop c u j a b d e f = grind (arith, nat_tests)

pub all-marked : (c : Counts) (u n : ℕ) → ((k : ℕ) → k < n → is_marked c u k ≡ true) → all_marked c u n ≡ true
all-marked c u n = (Decides-below_and (is_marked c u) (λ k. is_marked c u k ≡ true) (all_marked c u) (λ k. (λ e. e, λ e. e)) refl (λ _. refl) n).1

-- a node below the stop, none of whose steps changes anything, has a neighbour that has moved less often
pub waits-behind : (network : Neighbours) (stop : ℕ) (c : Counts) (u : ℕ) → HasShape network c → u < length network → moves_of c u ≢ stop
    → ((j : ℕ) → is_change (answer_of network stop c (Read u j)) ≡ false) → is_change (answer_of network stop c (Write u)) ≡ false
    → (j : ℕ) × (j < degree network u) × (moves_of c (neighbour network u j) < moves_of c u)
waits-behind network stop c u shape node unstopped reads write =
    ⊎_elim
    (λ b.
    let k = any-finds (λ w. nat_lt (moves_of c w) (moves_of c u)) (neighbours_of network u) b in
    let n = neighbour_is network u k.0 in
    let inside : k.0 < degree network u = (let l = k.1 in omega (arith, l, neighbours_many network u)) in
    let lower : moves_of c (neighbour network u k.0) < moves_of c u =
    ⊎_elim (λ l. l) (λ l. absurd (false≢true (sym (lt_false (moves_of c (neighbour network u k.0)) (moves_of c u) l) ∙ rw n at k.2))) (cases_lt (moves_of c (neighbour network u k.0)) (moves_of c u)) in
    (k.0, inside, lower))
    (λ b.
    let free = turn-free network stop c u shape (turn-moves network stop c u node unstopped b) in
    let ready : (k : ℕ) → k < degree network u → is_marked c u k ≡ true =
    λ k h. ⊎_elim (λ t. t) (λ e. absurd (false≢true (sym (reads k) ∙ ap is_change (answer-fresh network stop c u k node h unstopped (free.ahead k h) e)))) (cases_bool (is_marked c u k)) in
    absurd (false≢true (sym write ∙ ap is_change (answer-ready network stop c u node unstopped (all-marked c u (degree network u) ready)))))
    (cases_bool (any_behind network c u))

-- no step changes anything
abbrev pub Rests : Neighbours → ℕ → Counts → Type 0
Rests network stop c = (step : Step) → is_change (answer_of network stop c step) ≡ false

none_below : (network : Neighbours) (stop : ℕ) (c : Counts) → IsNetwork network → HasShape network c → Rests network stop c → (m u : ℕ) → u < length network → moves_of c u < m → moves_of c u < stop → ⊥
none_below network stop c net shape rests zero u h low below = omega arith
none_below network stop c net shape rests (suc m) u h low below =
    let b = waits-behind network stop c u shape h (λ e. omega arith) (λ j. rests (Read u j)) (rests (Write u)) in
    let l = b.2 in
    none_below network stop c net shape rests m (neighbour network u b.0) (net.within u b.0 b.1) (omega arith) (omega arith)

-- then every node stands at the stop
pub rests-at_stop : (network : Neighbours) (stop : ℕ) (c : Counts) → IsNetwork network → HasShape network c → InStep network stop c → Rests network stop c → (u : ℕ) → u < length network → moves_of c u ≡ stop
rests-at_stop network stop c net shape is rests u h =
    ⊎_elim (λ l. absurd (none_below network stop c net shape rests (moves_of c u + 1) u h (omega arith) l)) (λ l. (let w = is.within u in omega arith)) (cases_lt (moves_of c u) stop)

-- where one step more changes something, there are fewer steps than it takes to the stop
pub more-needed : (plan : PlanView) (stop : ℕ) (c : Counts) (steps : List Step) (step : Step) → IsPlan plan → plan.start ≤ stop → HasShape plan.network c → InStep plan.network stop c → LeadTo plan stop c steps
    → is_change (answer_of plan.network stop c step) ≡ true → length steps < needed plan stop
more-needed plan stop c steps step is late shape in_step h e =
    let network = plan.network in
    let more = lead-more plan stop c steps step h e in
    let many = length-lead plan stop (after network stop c step) (steps ++ step ∷ []) is late (shape-after network stop c step shape) (in_step-after network stop c step (network_simple network is.network) shape in_step) more in
    omega (arith, many, length-append steps (step ∷ []))

-- a list that ends where nothing changes any more, or at the limit before a step that would change something
pub goes-to_stop : (plan : PlanView) (stop limit : ℕ) (c : Counts) (steps : List Step) → IsPlan plan → plan.start ≤ stop → HasShape plan.network c → InStep plan.network stop c → LeadTo plan stop c steps → length steps ≤ limit
    → Rests plan.network stop c ⊎ ((length steps ≡ limit) × ((step : Step) × (is_change (answer_of plan.network stop c step) ≡ true))) → GoesToStop plan stop limit steps
goes-to_stop plan stop limit c steps is late shape in_step h few ends =
    let list : IsStepList plan stop limit steps = record { leads = record { arrive = refl; each_changes = h.each_changes }; few = few } in
    ⊎_elim
    (λ rests.
    let whole = whole-trace plan stop c steps is late shape in_step (rests-at_stop plan.network stop c is.network shape in_step rests) h in
    record { list = list; count = (let n = whole.count in omega arith); whole = λ _. whole })
    (λ full.
    let less = more-needed plan stop c steps full.1.0 is late shape in_step h full.1.1 in
    let n = full.0 in
    record { list = list; count = omega arith; whole = λ enough. absurd (omega arith) })
    ends

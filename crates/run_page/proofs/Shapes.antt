-- Pages are closed, and nest four deep.
use Rattle.std.proofs.Common.{◌≡◌, ◌≤◌, ◌+◌, ◌∷◌, ◌++◌, ℕ, List, [], true, arith, codes, length, map, nat_lt, refl, string_bytes}
use Rattle.std.specs.List.{AllByRecursion, filter, flat_map}
use Rattle.std.specs.Prelude.{Option, Some, None}
use Rattle.link_net.specs.Neighbours.{Neighbours, numbers_below, row}
use Rattle.rounds_plan.specs.Plans.{PlanView}
use Rattle.rule_check.specs.declared.state.State.{State}
use Rattle.run_settle.specs.declared.settling.Settling.{Settling}
use Rattle.run_settle.specs.declared.settling.Settling.TheVariants.{Settles, Repeats, Open}
use Rattle.run_watch.specs.Spans.{rounds_in}
use Rattle.serde_json.specs.Data.{Data, object, Members, no_members, member, depth, items_depth, members_depth}
use Rattle.serde_json.specs.Read.{max_depth}
use Rattle.serde_json.specs.View.{items_of}
use Rattle.unison_world.specs.declared.step.Step.{Step}
use Rattle.unison_world.specs.declared.step.Step.TheVariants.{Read, Write}
use Rattle.run_page.specs.declared.look.Look.{Look}
use Rattle.run_page.specs.declared.look.PageRounds.{PageRounds}
use Rattle.run_page.specs.Closed.{IsClosed, ItemsAreClosed, MembersAreClosed, is_closed}
use Rattle.run_page.specs.Pages.{headed, legend_of, links_of, links_up, listed, numbers, rounds_members, rounds_page, settling_data, shown, shown_names, states_of, step_data, stepped, stepped_naively, texts, value_names, values_at, whole, writes_of, written_data}

-- closed, and no deeper than so
abbrev Shaped : ℕ → Data → Type 0
Shaped k d = IsClosed d × (depth d ≤ k)

abbrev AllShaped : ℕ → List Data → Type 0
AllShaped k = AllByRecursion (Shaped k)

items_shaped : (k : ℕ) (ds : List Data) → AllShaped k ds → ItemsAreClosed (items_of ds) × (items_depth (items_of ds) ≤ k)
items_shaped k [] h = (tt, omega arith)
items_shaped k (d ∷ ds) h =
    let rest = items_shaped k ds h.1 in
    ((h.0.0, rest.0), omega (arith, h.0.1, rest.1))

listed_shaped : (k : ℕ) (ds : List Data) → AllShaped k ds → IsClosed (listed ds) × (depth (listed ds) ≤ k + 1)
listed_shaped k ds h = let all = items_shaped k ds h in (all.0, omega (arith, all.1))

mapped : {X : Type 0} (k : ℕ) (f : X → Data) → ((x : X) → Shaped k (f x)) → (xs : List X) → AllShaped k (map f xs)
mapped k f each [] = tt
mapped k f each (x ∷ xs) = (each x, mapped k f each xs)

joined : (k : ℕ) (ds es : List Data) → AllShaped k ds → AllShaped k es → AllShaped k (ds ++ es)
joined k [] es p q = q
joined k (d ∷ ds) es p q = (p.0, joined k ds es p.1 q)

flattened : {X : Type 0} (k : ℕ) (f : X → List Data) → ((x : X) → AllShaped k (f x)) → (xs : List X) → AllShaped k (flat_map f xs)
flattened k f each [] = tt
flattened k f each (x ∷ xs) = joined k (f x) (flat_map f xs) (each x) (flattened k f each xs)

whole_shaped : (n : ℕ) → Shaped 0 (whole n)
whole_shaped n = (refl, omega arith)

numbers_shaped : (ns : List ℕ) → Shaped 1 (numbers ns)
numbers_shaped ns = listed_shaped 0 (map whole ns) (mapped 0 whole whole_shaped ns)

texts_shaped : (ts : List (List ℕ)) → Shaped 2 (texts ts)
texts_shaped ts = listed_shaped 1 (map numbers ts) (mapped 1 numbers numbers_shaped ts)

legend_shaped : (look : Look) → Shaped 3 (legend_of look)
legend_shaped look =
    listed_shaped 2 (map (λ k. texts (value_names look k)) look.fields.now)
    (mapped 2 (λ (k : ℕ). texts (value_names look k)) (λ (k : ℕ). texts_shaped (value_names look k)) look.fields.now)

links_shaped : (network : Neighbours) → Shaped 2 (listed (links_of network))
links_shaped network =
    listed_shaped 1 (links_of network)
    (flattened 1 (λ u. links_up u (row network u))
    (λ u. mapped 1 (λ a. numbers (u ∷ (a.0 ∷ (a.1 ∷ [])))) (λ a. numbers_shaped (u ∷ (a.0 ∷ (a.1 ∷ [])))) (filter (λ a. nat_lt u a.0) (row network u)))
    (numbers_below (length network)))

states_shaped : (p : PlanView) (fields rounds : List ℕ) → Shaped 2 (states_of p fields rounds)
states_shaped p fields rounds =
    listed_shaped 1 (map (λ t. numbers (values_at p fields t)) rounds) (mapped 1 (λ t. numbers (values_at p fields t)) (λ t. numbers_shaped (values_at p fields t)) rounds)

settling_shaped : (settling : Option Settling) → AllShaped 0 (settling_data settling)
settling_shaped None = tt
settling_shaped (Some (Settles round)) = ((refl, omega arith), (whole_shaped round, tt))
settling_shaped (Some (Repeats round period)) = ((refl, omega arith), (whole_shaped round, (whole_shaped period, tt)))
settling_shaped (Some (Open limit)) = ((refl, omega arith), (whole_shaped limit, tt))

step_shaped : (step : Step) → Shaped 1 (step_data step)
step_shaped (Read node slot) = numbers_shaped (node ∷ (slot ∷ []))
step_shaped (Write node) = numbers_shaped (node ∷ [])

headed_shaped : (p : PlanView) (look : Look) (manner : List ℕ) (rest : Members) → is_closed manner ≡ true → MembersAreClosed rest → members_depth rest ≤ 3
    → MembersAreClosed (headed p look manner rest) × (members_depth (headed p look manner rest) ≤ 3)
unfolding headed
headed_shaped p look manner rest closed others shallow =
    let fields = texts_shaped (shown_names p look) in
    let legend = legend_shaped look in
    let links = links_shaped p.network in
    let names = texts_shaped (map string_bytes look.labels.now) in (
      (refl, fields.0, (refl, refl, (refl, legend.0, (refl, links.0, (refl, closed, (refl, names.0, (refl, refl, (refl, refl, others)))))))),
      omega (arith, fields.1, legend.1, links.1, names.1, shallow),
    )

-- a page of rounds
pub rounds_shaped : (p : PlanView) (shown : PageRounds) → IsClosed (rounds_page p shown) × (depth (rounds_page p shown) ≤ max_depth)
unfolding rounds_page rounds_members
rounds_shaped p shown =
    let span = shown.span.now in
    let look = shown.look.now in
    let settling = shown.settling in
    let rounds = numbers_shaped (rounds_in span) in
    let becomes = listed_shaped 0 (settling_data settling) (settling_shaped settling) in
    let states = states_shaped p look.fields.now (rounds_in span) in
    let rest =
    member (codes "rounds") (numbers (rounds_in span))
    (member (codes "settling") (listed (settling_data settling))
    (member (codes "states") (states_of p look.fields.now (rounds_in span)) no_members)) in
    let all = headed_shaped p look (codes "rounds") rest refl (refl, rounds.0, (refl, becomes.0, (refl, states.0, tt))) (omega (arith, rounds.1, becomes.1, states.1)) in
    (all.0, omega (arith, all.1))

-- what is said of steps, before others
stepped_shaped : (p : PlanView) (stop : ℕ) (steps : List Step) (look : Look) (answers rounds : List ℕ) (rest : Members) → MembersAreClosed rest → members_depth rest ≤ 3
    → MembersAreClosed (stepped p stop steps look answers rounds rest) × (members_depth (stepped p stop steps look answers rounds rest) ≤ 3)
unfolding stepped
stepped_shaped p stop steps look answers rounds rest closed shallow =
    let codes_of = numbers_shaped answers in
    let reached = numbers_shaped rounds in
    let states = states_shaped p look.fields.now rounds in
    let all_steps = listed_shaped 1 (map step_data steps) (mapped 1 step_data step_shaped steps) in
    let others =
    member (codes "rounds") (numbers rounds)
    (member (codes "states") (states_of p look.fields.now rounds)
    (member (codes "steps") (listed (map step_data steps))
    (member (codes "stop") (whole stop) rest))) in
    let all =
    headed_shaped p look (codes "steps") others refl (refl, reached.0, (refl, states.0, (refl, all_steps.0, (refl, refl, closed)))) (omega (arith, reached.1, states.1, all_steps.1, shallow)) in
    ((refl, codes_of.0, all.0), omega (arith, codes_of.1, all.1))

-- a page of steps
pub steps_shaped : (p : PlanView) (stop : ℕ) (steps : List Step) (look : Look) (answers rounds : List ℕ)
    → IsClosed (object (stepped p stop steps look answers rounds no_members)) × (depth (object (stepped p stop steps look answers rounds no_members)) ≤ max_depth)
steps_shaped p stop steps look answers rounds =
    let all = stepped_shaped p stop steps look answers rounds no_members tt (omega arith) in
    (all.0, omega (arith, all.1))

written_shaped : (fields : List ℕ) (state : Option State) → Shaped 1 (written_data fields state)
written_shaped fields None = numbers_shaped []
written_shaped fields (Some state) = numbers_shaped (shown fields state)

-- a page of steps that are also made by nodes that do not wait
pub naive_shaped : (p : PlanView) (stop : ℕ) (steps : List Step) (look : Look) (answers rounds : List ℕ) (states : List (Option State))
    → IsClosed (stepped_naively p stop steps look answers rounds states) × (depth (stepped_naively p stop steps look answers rounds states) ≤ max_depth)
unfolding stepped_naively
naive_shaped p stop steps look answers rounds states =
    let fields = look.fields.now in
    let writes = listed_shaped 1 (map (written_data fields) states) (mapped 1 (written_data fields) (written_shaped fields) states) in
    let all = stepped_shaped p stop steps look answers rounds (member (codes "written") (writes_of fields states) no_members) (refl, writes.0, tt) (omega (arith, writes.1)) in
    (all.0, omega (arith, all.1))

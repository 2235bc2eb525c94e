-- What aggregates have gathered over a node's neighbours.
use Rattle.std.proofs.Common.{◌≡◌, ◌<◌, ◌≤◌, ℕ, List, length, map, take, refl, sym, ap, subst, ◌∙◌, arith, slice_index, slice_index_or}
use Rattle.std.specs.Global.{Vec}
use Rattle.std.proofs.lemmas.List.{same_lists, length-map, get_or-map, take_all}
use Rattle.rule_check.specs.declared.state.State.{State}
use Rattle.rule_check.specs.declared.state.Near.{Near}
use Rattle.rule_check.specs.declared.state.Sums.{Sums}
use Rattle.rule_check.specs.Value.{Rules, here_at, next_at}
use Rattle.rule_check.specs.Gathering.{sums_at}
use Rattle.rule_check.proofs.Programs.{finished_all}
use Rattle.link_net.specs.Neighbours.{Neighbours, row, degree}
use Rattle.rounds_code.specs.Block.{Lane, IsSameNode, HasGathered, state_at, next_of}
use Rattle.rounds_blocks.specs.Rounds.{near_at, nears_in, round_from}
use Rattle.rounds_blocks.specs.Gathered.{gathered_first, gathered}

-- as many neighbours as the degree
pub nears_count : (network : Neighbours) (at : ℕ → State) (u : ℕ) → length (nears_in network at u) ≡ degree network u
nears_count network at u = length-map (row network u) (near_at at)

abbrev lane_with : ℕ → ℕ → State → ℕ → Sums → Lane
lane_with u degree own round sums = record { id = u; degree = degree; own = own; round = round; sums = sums }

abbrev sums_over : Rules → Neighbours → ℕ → List (Vec ℕ) → ℕ → List Near → Sums
sums_over rules network round columns u nears = sums_at rules (here_at rules round u (degree network u) (state_at columns u) nears)

same_sums : (rules : Rules) (network : Neighbours) (round : ℕ) (columns : List (Vec ℕ)) (u : ℕ) (xs ys : List Near) → xs ≡ ys
    → lane_with u (degree network u) (state_at columns u) round (sums_over rules network round columns u xs) ≡ lane_with u (degree network u) (state_at columns u) round (sums_over rules network round columns u ys)
same_sums rules network round columns u xs ys same = ap (λ ns. lane_with u (degree network u) (state_at columns u) round (sums_over rules network round columns u ns)) same

lane_is : (lane : Lane) (u degree : ℕ) (own : State) (round : ℕ) (sums : Sums) → lane.id ≡ u → lane.degree ≡ degree → lane.own ≡ own → lane.round ≡ round → lane.sums ≡ sums → lane ≡ lane_with u degree own round sums
lane_is lane u degree own round sums id_is degree_is own_is round_is sums_are =
    ap (λ (v : ℕ). lane_with v lane.degree lane.own lane.round lane.sums) id_is
    ∙ ap (λ (v : ℕ). lane_with u v lane.own lane.round lane.sums) degree_is
    ∙ ap (λ (v : State). lane_with u degree v lane.round lane.sums) own_is
    ∙ ap (λ (v : ℕ). lane_with u degree own v lane.sums) round_is
    ∙ ap (λ (v : Sums). lane_with u degree own round v) sums_are

sums_here : (rules own : Rules) (lane : Lane) (u degree : ℕ) (state : State) (round : ℕ) (xs ys : List Near) → own ≡ rules → lane.id ≡ u → lane.degree ≡ degree → lane.own ≡ state → lane.round ≡ round → xs ≡ ys → HasGathered own xs lane
    → lane.sums ≡ sums_at rules (here_at rules round u degree state ys)
sums_here rules own lane u degree state round xs ys same id_is degree_is own_is round_is are has =
    has
    ∙ ap (λ (r : Rules). sums_at r (here_at r lane.round lane.id lane.degree lane.own xs)) same
    ∙ ap (λ (v : ℕ). sums_at rules (here_at rules v lane.id lane.degree lane.own xs)) round_is
    ∙ ap (λ (v : ℕ). sums_at rules (here_at rules round v lane.degree lane.own xs)) id_is
    ∙ ap (λ (v : ℕ). sums_at rules (here_at rules round u v lane.own xs)) degree_is
    ∙ ap (λ (v : State). sums_at rules (here_at rules round u degree v xs)) own_is
    ∙ ap (λ (ns : List Near). sums_at rules (here_at rules round u degree state ns)) are

-- what a node has gathered over its first neighbours
pub first_gathered : (rules own : Rules) (network : Neighbours) (round : ℕ) (columns : List (Vec ℕ)) (j u : ℕ) (lane : Lane) → own ≡ rules → lane ≡ gathered_first rules network round columns j u
    → HasGathered own (take j (nears_in network (state_at columns) u)) lane
first_gathered rules own network round columns j u lane same is =
    let nears = take j (nears_in network (state_at columns) u) in
    subst (HasGathered own nears) (sym is) (subst (λ (r : Rules). HasGathered r nears (gathered_first rules network round columns j u)) (sym same) refl)

-- a node that has gathered over more of its neighbours
pub gathered_more : (rules own : Rules) (network : Neighbours) (round : ℕ) (columns : List (Vec ℕ)) (j k u : ℕ) (old new : Lane) (nears : List Near) → own ≡ rules → old ≡ gathered_first rules network round columns j u
    → IsSameNode old new → nears ≡ take k (nears_in network (state_at columns) u) → HasGathered own nears new → new ≡ gathered_first rules network round columns k u
gathered_more rules own network round columns j k u old new nears same is kept are has =
    let d = degree network u in
    let state = state_at columns u in
    let firsts = take k (nears_in network (state_at columns) u) in
    let id_is = kept.id ∙ ap (λ (l : Lane). l.id) is in
    let degree_is = kept.degree ∙ ap (λ (l : Lane). l.degree) is in
    let own_is = kept.own ∙ ap (λ (l : Lane). l.own) is in
    let round_is = kept.round ∙ ap (λ (l : Lane). l.round) is in
    lane_is new u d state round (sums_over rules network round columns u firsts) id_is degree_is own_is round_is
    (sums_here rules own new u d state round nears firsts same id_is degree_is own_is round_is are has)

-- past its neighbours a node stays
pub gathered_past : (rules : Rules) (network : Neighbours) (round : ℕ) (columns : List (Vec ℕ)) (j k u : ℕ) → degree network u ≤ j → j ≤ k → gathered_first rules network round columns j u ≡ gathered_first rules network round columns k u
gathered_past rules network round columns j k u past on =
    let nears = nears_in network (state_at columns) u in
    let count = nears_count network (state_at columns) u in
    same_sums rules network round columns u (take j nears) (take k nears) (take_all j nears (omega (arith, past, count)) ∙ sym (take_all k nears (omega (arith, past, on, count))))

-- with all its neighbours
pub gathered_whole : (rules : Rules) (network : Neighbours) (round : ℕ) (columns : List (Vec ℕ)) (j u : ℕ) → degree network u ≤ j → gathered_first rules network round columns j u ≡ gathered rules network round columns u
gathered_whole rules network round columns j u past =
    let nears = nears_in network (state_at columns) u in
    same_sums rules network round columns u (take j nears) nears (take_all j nears (omega (arith, past, nears_count network (state_at columns) u)))

-- what is gathered over all neighbours leads to the next state
next_gathered : (rules : Rules) (network : Neighbours) (round : ℕ) (columns : List (Vec ℕ)) (u : ℕ) → next_of rules (gathered rules network round columns u) ≡ round_from rules network round (state_at columns) u
next_gathered rules network round columns u =
    let at = state_at columns in
    let nears = nears_in network at u in
    finished_all rules round u (degree network u) (at u) nears
    ∙ ap (λ d. next_at rules (here_at rules round u d (at u) nears)) (sym (nears_count network at u))

-- the next words of nodes
pub next_words : (rules : Rules) (network : Neighbours) (round : ℕ) (columns : List (Vec ℕ)) (lanes : List Lane) (nodes : List ℕ) (k : ℕ) → length lanes ≡ length nodes
    → ((i : ℕ) (d : Lane) → i < length nodes → slice_index_or lanes i d ≡ gathered rules network round columns (slice_index nodes i))
    → map (λ node. slice_index (next_of rules node).words k) lanes ≡ map (λ u. slice_index (round_from rules network round (state_at columns) u).words k) nodes
next_words rules network round columns lanes nodes k many are =
    let word = λ (node : Lane). slice_index (next_of rules node).words k in
    let next = λ (u : ℕ). slice_index (round_from rules network round (state_at columns) u).words k in
    let none = gathered rules network round columns 0 in
    same_lists (map word lanes) (map next nodes) (length-map lanes word ∙ many ∙ sym (length-map nodes next))
    (λ i d h.
    let inside : i < length lanes = omega (arith, h, length-map lanes word) in
    let place : i < length nodes = omega (arith, inside, many) in
    get_or-map word lanes i none d inside
    ∙ ap word (are i none place)
    ∙ ap (λ (s : State). slice_index s.words k) (next_gathered rules network round columns (slice_index nodes i))
    ∙ sym (get_or-map next nodes i 0 d place))

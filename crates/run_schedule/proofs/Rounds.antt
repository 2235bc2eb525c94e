-- The synchronous daemon moves all nodes, round by round.
use Rattle.std.proofs.Common.{◌≡◌, ◌≢◌, ℕ, zero, suc, ◌+◌, ◌-◌, ◌<◌, ◌≤◌, Bool, true, false, List, [], ◌∷◌, ◌++◌, length, take, get_or, sym, refl, ap, subst, ◌∙◌, inl, inr, ⊎_elim, arith}
use Rattle.std.specs.List.{filter, flat_map, range_with_len, repeat}
use Rattle.std.proofs.lemmas.List.{take_all, length-take}
use Rattle.std.proofs.lemmas.Bool.{cases_lt}
use Rattle.link_net.specs.Neighbours.{Neighbours, IsNetwork, degree, neighbour, numbers_below}
use Rattle.rounds_plan.specs.Plans.{PlanView, IsPlan}
use Rattle.unison_world.specs.declared.step.Step.{Step}
use Rattle.unison_world.specs.Counting.{Counts, moves_of, is_marked, at_start, after, run, HasShape}
use Rattle.unison_world.specs.Turns.{neighbours_of}
use Rattle.unison_world.proofs.Sights.{lt_false}
use Rattle.unison_world.proofs.Steps.{shape-after, shape-at_start, moves-at_start, marked-at_start}
use Rattle.unison_world.proofs.Turnings.{Has, any-false, has_range, neighbour_is, neighbours_many}
use Rattle.unison_trace.specs.Histories.{run_of}
use Rattle.unison_trace.specs.Traces.{needed}
use Rattle.run_schedule.specs.declared.daemon.Daemon.TheVariants.{Synchronous}
use Rattle.run_schedule.specs.Daemons.{AreChoices, AreStepsUnder, MayMove, enabled_nodes, is_enabled, rounds_of, steps_together}
use Rattle.run_schedule.specs.Lists.{GoesToStop}
use Rattle.run_schedule.proofs.Fronts.{front-full, repeat-split}
use Rattle.run_schedule.proofs.Joint.{enabled-from, enabled-parts, together}
use Rattle.run_schedule.proofs.Sweeping.{run-append}

-- all nodes have moved as often, and no slot is marked
record AllAt (network : Neighbours) (r : ℕ) (c : Counts) : Type 0 where
  shape : HasShape network c
  bare : (u k : ℕ) → is_marked c u k ≡ false
  moves : (u : ℕ) → u < length network → moves_of c u ≡ r

all-at_start : (network : Neighbours) (start : ℕ) → AllAt network start (at_start network start)
all-at_start network start =
    record { shape = shape-at_start network start; bare = λ u k. marked-at_start network start u k; moves = λ u h. moves-at_start network start u h }

shape-run : (network : Neighbours) (stop : ℕ) (c : Counts) (steps : List Step) → HasShape network c → HasShape network (run network stop c steps)
shape-run network stop c [] shape = shape
shape-run network stop c (s ∷ steps) shape = shape-run network stop (after network stop c s) steps (shape-after network stop c s shape)

filter-all : (f : ℕ → Bool) (js : List ℕ) → ((v : ℕ) → Has v js → f v ≡ true) → filter f js ≡ js
filter-all f [] h = refl
filter-all f (j ∷ js) h = (let e = h j (inl refl) in rw e (ap (λ xs. j ∷ xs) (filter-all f js (λ v m. h v (inr m)))))

range-has : (a n k : ℕ) → Has k (range_with_len a n) → k < a + n
range-has a zero k h = absurd h
range-has a (suc n) k h = ⊎_elim (λ e. omega arith) (λ e. (let r = range-has (a + 1) n k e in omega arith)) h

-- then all are enabled below the stop
all-enabled : (network : Neighbours) (stop r : ℕ) (c : Counts) → IsNetwork network → AllAt network r c → r < stop → enabled_nodes network stop c ≡ numbers_below (length network)
all-enabled network stop r c net at less =
    filter-all (is_enabled network stop c) (numbers_below (length network))
    (λ u m.
    let range = range-has 0 (length network) u m in
    let h : u < length network = omega arith in
    let mine = at.moves u h in
    enabled-from network stop c u h (λ e. omega arith)
    (any-false _ (neighbours_of network u)
    (λ k l.
    let low : k < degree network u = (let n = neighbours_many network u in omega arith) in
    let theirs = at.moves (neighbour network u k) (net.within u k low) in
    let place = ap (moves_of c) (neighbour_is network u k) in
    lt_false (moves_of c (get_or (neighbours_of network u) k 0)) (moves_of c u) (omega arith))))

-- some node may move, so that they are not at the stop
some-below : (network : Neighbours) (stop r : ℕ) (c : Counts) (us : List ℕ) → AllAt network r c → MayMove network stop c us → r ≢ stop
some-below network stop r c us at may e =
    let parts = enabled-parts network stop c (get_or us 0 0) (may.enabled 0 0 may.some) in
    parts.1 (at.moves (get_or us 0 0) parts.0 ∙ e)

-- the groups of the synchronous daemon: so many rounds
sync-rounds : (network : Neighbours) (stop r : ℕ) (c : Counts) (groups : List (List ℕ)) → IsNetwork network → AllAt network r c → r ≤ stop → AreChoices network stop Synchronous c groups
    → (flat_map (steps_together network) groups ≡ repeat (length groups) (steps_together network (numbers_below (length network)))) × (r + length groups ≤ stop)
    × AllAt network (r + length groups) (run network stop c (flat_map (steps_together network) groups))
sync-rounds network stop r c [] net at low choices = (refl, omega arith, subst (λ k. AllAt network k c) (let e : r ≡ r + 0 = omega arith in e) at)
sync-rounds network stop r c (us ∷ groups) net at low choices =
    let choice = choices.0 in
    let unstopped = some-below network stop r c us at choice.may in
    let all : us ≡ numbers_below (length network) = choice.chosen ∙ all-enabled network stop r c net at (omega arith) in
    let moves = together network stop us c at.shape at.bare choice.may in
    let d = run network stop c (steps_together network us) in
    let next : AllAt network (r + 1) d =
    record {
      shape = shape-run network stop c (steps_together network us) at.shape;
      bare = moves.1;
      moves = λ u h. moves.2 u (subst (Has u) (sym all) (has_range 0 (length network) u (omega arith) (omega arith))) ∙ ap (λ n. n + 1) (at.moves u h);
    } in
    let rest = sync-rounds network stop (r + 1) d groups net next (omega arith) choices.1 in
    let many : (r + 1) + length groups ≡ r + suc (length groups) = omega arith in
    let fits = rest.1 in (
      ap (λ xs. steps_together network xs ++ flat_map (steps_together network) groups) all ∙ ap (λ xs. steps_together network (numbers_below (length network)) ++ xs) rest.0,
      omega arith,
      subst (AllAt network (r + suc (length groups))) (sym (run-append network stop c (steps_together network us) (flat_map (steps_together network) groups)))
          (subst (λ k. AllAt network k (run network stop d (flat_map (steps_together network) groups))) many rest.2),
    )

-- a list of the synchronous daemon is the rounds, or the front of them
pub sync-list : (plan : PlanView) (stop limit : ℕ) (steps : List Step) → IsPlan plan → plan.start ≤ stop → GoesToStop plan stop limit steps → AreStepsUnder plan stop Synchronous limit steps → steps ≡ take limit (rounds_of plan stop)
sync-list plan stop limit steps is late goes under =
    let network = plan.network in
    let g = under.groups in
    let round = steps_together network (numbers_below (length network)) in
    let all = sync-rounds network stop plan.start (at_start network plan.start) g.0 is.network (all-at_start network plan.start) late g.1 in
    let k = length g.0 in
    let fits = all.1 in
    let front : steps ≡ take limit (repeat k round) = g.2 ∙ ap (take limit) all.0 in
    let sum : k + ((stop - plan.start) - k) ≡ stop - plan.start = omega arith in
    let cut : limit ≤ length steps → steps ≡ take limit (rounds_of plan stop) =
    λ full. front-full limit (repeat k round) (repeat ((stop - plan.start) - k) round) steps front full ∙ ap (take limit) (repeat-split k ((stop - plan.start) - k) round ∙ ap (λ n. repeat n round) sum) in
    ⊎_elim
    (λ less.
    let count = goes.count in
    let enough : needed plan stop ≤ limit = omega arith in
    let whole = goes.whole enough in
    let many = ap length front ∙ length-take limit (repeat k round) in
    let exact : steps ≡ flat_map (steps_together network) g.0 = front ∙ take_all limit (repeat k round) (omega arith) ∙ sym all.0 in
    let some : 0 < length network = (let s = is.network.some in omega arith) in
    let ends : moves_of (run_of plan stop steps) 0 ≡ stop = ap (λ (x : Counts). moves_of x 0) whole.leads.arrive ∙ moves-at_start network stop 0 some in
    let stands : moves_of (run_of plan stop steps) 0 ≡ plan.start + k = ap (λ (xs : List Step). moves_of (run_of plan stop xs) 0) exact ∙ all.2.moves 0 some in
    let last : k ≡ stop - plan.start = omega arith in
    front ∙ ap (λ n. take limit (repeat n round)) last)
    (λ full. cut full)
    (cases_lt (length steps) limit)

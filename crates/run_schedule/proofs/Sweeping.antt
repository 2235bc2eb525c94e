-- Every step of whole sweeps changes something.
use Rattle.std.proofs.Common.{◌≡◌, ◌≢◌, ℕ, zero, suc, min, ◌+◌, ◌-◌, ◌<◌, ◌≤◌, true, false, List, [], ◌∷◌, ◌++◌, length, map, set, take, get_or, sym, refl, ap, ◌∙◌, subst, ⊎_elim, arith}
use Rattle.std.specs.List.{All, range_with_len, flat_map, repeat}
use Rattle.std.proofs.lemmas.List.{get_or-set_same, get_or-set_other, length-take, take_all}
use Rattle.std.proofs.lemmas.List.Elements.{All-nil, All-cons, All-append, All-take}
use Rattle.std.proofs.lemmas.Bool.{cases_eq, cases_lt, false≢true}
use Rattle.link_net.specs.Neighbours.{Neighbours, IsNetwork, degree, neighbour, numbers_below}
use Rattle.rounds_plan.specs.Plans.{PlanView, IsPlan}
use Rattle.link_net.proofs.Simples.{network_simple}
use Rattle.unison_world.specs.declared.step.Step.{Step}
use Rattle.unison_world.specs.declared.step.Step.TheVariants.{Read, Write}
use Rattle.unison_world.specs.declared.step.Answer.{Answer}
use Rattle.unison_world.specs.declared.step.Answer.TheVariants.{Taken, Moved}
use Rattle.unison_world.specs.Counting.{Counts, moves_of, marks_of, is_marked, at_start, answer_of, change, marked, moved, after, run, answers, HasShape, InStep}
use Rattle.unison_world.proofs.Sights.{cases_bool}
use Rattle.unison_world.proofs.Steps.{shape-marked, shape-moved, moves-moved, marked-moved, moves-at_start, marked-at_start, shape-at_start, in_step-at_start, in_step-run}
use Rattle.unison_world.proofs.Turnings.{Free, run-all}
use Rattle.unison_world.proofs.Writes.{answer-ready}
use Rattle.unison_trace.specs.Histories.{is_change, run_of, answers_of}
use Rattle.unison_trace.specs.Traces.{IsWholeTrace, needed}
use Rattle.unison_trace.proofs.Leading.{whole-trace}
use Rattle.run_schedule.specs.Lists.{GoesToStop}
use Rattle.run_schedule.specs.Sweeps.{turn_of, sweep_of, sweeps_of}
use Rattle.run_schedule.proofs.Resting.{answer-fresh, all-marked}

abbrev pub AllChange : List Answer → Type 0
AllChange list = All (λ a. is_change a ≡ true) list

pub run-append : (network : Neighbours) (stop : ℕ) (c : Counts) (xs ys : List Step) → run network stop c (xs ++ ys) ≡ run network stop (run network stop c xs) ys
run-append network stop c [] ys = refl
run-append network stop c (x ∷ xs) ys = run-append network stop (after network stop c x) xs ys

answers-append : (network : Neighbours) (stop : ℕ) (c : Counts) (xs ys : List Step) → answers network stop c (xs ++ ys) ≡ answers network stop c xs ++ answers network stop (run network stop c xs) ys
answers-append network stop c [] ys = refl
answers-append network stop c (x ∷ xs) ys = ap (λ list. answer_of network stop c x ∷ list) (answers-append network stop (after network stop c x) xs ys)

pub both-change : (network : Neighbours) (stop : ℕ) (c : Counts) (xs ys : List Step) → AllChange (answers network stop c xs) → AllChange (answers network stop (run network stop c xs) ys) → AllChange (answers network stop c (xs ++ ys))
both-change network stop c xs ys h k = rw (answers-append network stop c xs ys) (All-append (λ a. is_change a ≡ true) (answers network stop c xs) (answers network stop (run network stop c xs) ys) h k)

-- no slot from this one on is marked
abbrev pub Unmarked : Counts → ℕ → ℕ → Type 0
Unmarked c u j = (k : ℕ) → j ≤ k → is_marked c u k ≡ false

pub free-marked : (network : Neighbours) (stop u j : ℕ) (c : Counts) → Free network stop u c → Free network stop u (marked c u j)
free-marked network stop u j c f = record { shape = shape-marked network c u j f.shape; node = f.node; unstopped = f.unstopped; ahead = f.ahead }

pub unmarked-next : (network : Neighbours) (stop u j : ℕ) (c : Counts) → Free network stop u c → Unmarked c u j → Unmarked (marked c u j) u (j + 1)
unmarked-next network stop u j c f none k h =
    let has : u < length c.marks = (let a = f.shape.marks in let b = f.node in omega arith) in
    let other : k ≢ j = λ e. omega arith in
    ap (λ bs. get_or bs k false) (get_or-set_same c.marks u (set (marks_of c u) j true) [] has)
    ∙ get_or-set_other (marks_of c u) j k true false other
    ∙ none k (omega arith)

-- reads of a free node's slots
pub reads-change : (network : Neighbours) (stop u a n : ℕ) (c : Counts) → Free network stop u c → Unmarked c u a → a + n ≤ degree network u → AllChange (answers network stop c (map (λ j. Read u j) (range_with_len a n)))
reads-change network stop u a zero c f none fit = All-nil (λ a. is_change a ≡ true)
reads-change network stop u a (suc n) c f none fit =
    let inside : a < degree network u = omega arith in
    let taken = answer-fresh network stop c u a f.node inside f.unstopped (f.ahead a inside) (none a (omega arith)) in
    let rest : AllChange (answers network stop (marked c u a) (map (λ j. Read u j) (range_with_len (a + 1) n))) =
    reads-change network stop u (a + 1) n (marked c u a) (free-marked network stop u a c f) (unmarked-next network stop u a c f none) (omega arith) in
    let next : AllChange (Taken ∷ answers network stop (change c (Read u a) Taken) (map (λ j. Read u j) (range_with_len (a + 1) n))) =
    All-cons (λ a. is_change a ≡ true) Taken (answers network stop (marked c u a) (map (λ j. Read u j) (range_with_len (a + 1) n))) refl rest in
    subst (λ (x : Answer). AllChange (x ∷ answers network stop (change c (Read u a) x) (map (λ j. Read u j) (range_with_len (a + 1) n)))) (sym taken) next

-- after reads of all slots the node may write
write-ready : (network : Neighbours) (stop u a n : ℕ) (c : Counts) → Free network stop u c → Unmarked c u a → ((k : ℕ) → k < a → is_marked c u k ≡ true) → a + n ≡ degree network u
    → answer_of network stop (run network stop c (map (λ j. Read u j) (range_with_len a n))) (Write u) ≡ Moved
write-ready network stop u a zero c f none done fit = answer-ready network stop c u f.node f.unstopped (all-marked c u (degree network u) (λ k h. done k (omega arith)))
write-ready network stop u a (suc n) c f none done fit =
    let inside : a < degree network u = omega arith in
    let has : u < length c.marks = (let x = f.shape.marks in let b = f.node in omega arith) in
    let slot : a < length (marks_of c u) = (let s = f.shape.slots u in omega arith) in
    let taken = answer-fresh network stop c u a f.node inside f.unstopped (f.ahead a inside) (none a (omega arith)) in
    let here : (k : ℕ) → is_marked (marked c u a) u k ≡ get_or (set (marks_of c u) a true) k false = λ k. ap (λ bs. get_or bs k false) (get_or-set_same c.marks u (set (marks_of c u) a true) [] has) in
    let rest : answer_of network stop (run network stop (marked c u a) (map (λ j. Read u j) (range_with_len (a + 1) n))) (Write u) ≡ Moved =
    write-ready network stop u (a + 1) n (marked c u a) (free-marked network stop u a c f) (unmarked-next network stop u a c f none)
    (λ k h. here k ∙ ⊎_elim (λ e. rw e (get_or-set_same (marks_of c u) a true false slot)) (λ e. get_or-set_other (marks_of c u) a k true false e ∙ done k (omega arith)) (cases_eq k a))
    (omega arith) in
    subst (λ (x : Answer). answer_of network stop (run network stop (change c (Read u a) x) (map (λ j. Read u j) (range_with_len (a + 1) n))) (Write u) ≡ Moved) (sym taken) rest

-- a turn of a free node with no slot marked
turn-changes : (network : Neighbours) (stop u : ℕ) (c : Counts) → Free network stop u c → Unmarked c u 0 → AllChange (answers network stop c (turn_of network u))
turn-changes network stop u c f none =
    let reads = map (λ j. Read u j) (numbers_below (degree network u)) in
    let write = write-ready network stop u 0 (degree network u) c f none (λ k h. absurd (omega arith)) (omega arith) in
    both-change network stop c reads (Write u ∷ [])
    (reads-change network stop u 0 (degree network u) c f none (omega arith))
    (All-cons (λ a. is_change a ≡ true) (answer_of network stop (run network stop c reads) (Write u)) [] (ap is_change write) (All-nil (λ a. is_change a ≡ true)))

-- the nodes below this one have moved once more than the others, and no slot is marked
record MidSweep (network : Neighbours) (r i : ℕ) (c : Counts) : Type 0 where
  shape : HasShape network c
  bare : (u k : ℕ) → is_marked c u k ≡ false
  below : (v : ℕ) → v < i → v < length network → moves_of c v ≡ r + 1
  from : (v : ℕ) → i ≤ v → v < length network → moves_of c v ≡ r

sweep-free : (network : Neighbours) (stop r i : ℕ) (c : Counts) → IsNetwork network → MidSweep network r i c → i < length network → r < stop → Free network stop i c
sweep-free network stop r i c net mid h less =
    let own = mid.from i (omega arith) h in
    record {
      shape = mid.shape;
      node = h;
      unstopped = λ e. omega arith;
      ahead = λ j l.
          let w = neighbour network i j in
          let inside = net.within i j l in
          ⊎_elim (λ a. (let b = mid.below w a inside in omega arith)) (λ a. (let b = mid.from w a inside in omega arith)) (cases_lt w i);
    }

sweep-next : (network : Neighbours) (r i : ℕ) (c : Counts) → MidSweep network r i c → i < length network → MidSweep network r (i + 1) (moved c i)
sweep-next network r i c mid h =
    let has : i < length c.marks = (let a = mid.shape.marks in omega arith) in
    let counts : i < length c.moves = (let a = mid.shape.moves in omega arith) in
    record {
      shape = shape-moved network c i mid.shape;
      bare = λ u k. ⊎_elim (λ t. absurd (false≢true (sym (mid.bare u k) ∙ (marked-moved c i u k has t).1))) (λ t. t) (cases_bool (is_marked (moved c i) u k));
      below = λ v l inside.
          ⊎_elim
          (λ a. (let e = a.1 in let m = ap (moves_of c) a.0 in let f = mid.from i (omega arith) h in omega arith))
          (λ a. (let e = a.1 in let n = a.0 in let lower : v < i = omega arith in let b = mid.below v lower inside in omega arith))
          (moves-moved c i v counts);
      from = λ v l inside.
          ⊎_elim
          (λ a. (let e = a.0 in absurd (omega arith)))
          (λ a. (let e = a.1 in let f = mid.from v (omega arith) inside in omega arith))
          (moves-moved c i v counts);
    }

-- the turns of the nodes from i on
sweep-rest : (network : Neighbours) (stop r i n : ℕ) (c : Counts) → IsNetwork network → MidSweep network r i c → i + n ≡ length network → r < stop
    → AllChange (answers network stop c (flat_map (turn_of network) (range_with_len i n))) × MidSweep network r (length network) (run network stop c (flat_map (turn_of network) (range_with_len i n)))
sweep-rest network stop r i zero c net mid fit less = (All-nil (λ a. is_change a ≡ true), subst (λ k. MidSweep network r k c) (let e : i ≡ length network = omega arith in e) mid)
sweep-rest network stop r i (suc n) c net mid fit less =
    let h : i < length network = omega arith in
    let free = sweep-free network stop r i c net mid h less in
    let turn = turn-changes network stop i c free (λ k l. mid.bare i k) in
    let ends : run network stop c (turn_of network i) ≡ moved c i = run-all network stop c i free in
    let more = flat_map (turn_of network) (range_with_len (i + 1) n) in
    let r' = sweep-rest network stop r (i + 1) n (moved c i) net (sweep-next network r i c mid h) (omega arith) less in
    let rest : AllChange (answers network stop (run network stop c (turn_of network i)) more) = rw ends r'.0 in
    let last : MidSweep network r (length network) (run network stop (run network stop c (turn_of network i)) more) = rw ends r'.1 in
    (both-change network stop c (turn_of network i) more turn rest, rw (run-append network stop c (turn_of network i) more) last)

-- the next sweep begins where all nodes have moved
sweep-again : (network : Neighbours) (r : ℕ) (c : Counts) → MidSweep network r (length network) c → MidSweep network (r + 1) 0 c
sweep-again network r c mid =
    record { shape = mid.shape; bare = mid.bare; below = λ v l inside. absurd (omega arith); from = λ v l inside. mid.below v inside inside }

sweeps-change : (network : Neighbours) (stop r n : ℕ) (c : Counts) → IsNetwork network → MidSweep network r 0 c → r + n ≤ stop
    → AllChange (answers network stop c (repeat n (sweep_of network))) × MidSweep network (r + n) 0 (run network stop c (repeat n (sweep_of network)))
sweeps-change network stop r zero c net mid fit = (All-nil (λ a. is_change a ≡ true), subst (λ k. MidSweep network k 0 c) (let e : r ≡ r + 0 = omega arith in e) mid)
sweeps-change network stop r (suc n) c net mid fit =
    let one = sweep-rest network stop r 0 (length network) c net mid (omega arith) (omega arith) in
    let sweep = sweep_of network in
    let here = run network stop c sweep in
    let more = sweeps-change network stop (r + 1) n here net (sweep-again network r here one.1) (omega arith) in (
      both-change network stop c sweep (repeat n sweep) one.0 more.0,
      rw (run-append network stop c sweep (repeat n sweep)) (subst (λ k. MidSweep network k 0 (run network stop here (repeat n sweep))) (let e : (r + 1) + n ≡ r + suc n = omega arith in e) more.1),
    )

mid-at_start : (network : Neighbours) (start : ℕ) → MidSweep network start 0 (at_start network start)
mid-at_start network start =
    record { shape = shape-at_start network start; bare = λ u k. marked-at_start network start u k; below = λ v l inside. absurd (omega arith); from = λ v l inside. moves-at_start network start v inside }

-- the sweeps up to the stop are a whole trace
pub sweeps-whole : (plan : PlanView) (stop : ℕ) → IsPlan plan → plan.start ≤ stop → IsWholeTrace plan stop (sweeps_of plan stop)
sweeps-whole plan stop is late =
    let network = plan.network in
    let start = plan.start in
    let first = at_start network start in
    let all = sweeps-change network stop start (stop - start) first is.network (mid-at_start network start) (omega arith) in
    let c = run_of plan stop (sweeps_of plan stop) in
    let in_step : InStep network stop c = in_step-run network stop first (sweeps_of plan stop) (network_simple network is.network) (shape-at_start network start) (in_step-at_start network start stop (network_simple network is.network) late) in
    let last : (u : ℕ) → u < length network → moves_of c u ≡ stop = λ u h. (let e = all.1.from u (omega arith) h in omega arith) in
    whole-trace plan stop c (sweeps_of plan stop) is late all.1.shape in_step last (record { arrive = refl; each_changes = all.0 })

answers-take : (network : Neighbours) (stop n : ℕ) (c : Counts) (steps : List Step) → answers network stop c (take n steps) ≡ take n (answers network stop c steps)
answers-take network stop zero c steps = refl
answers-take network stop (suc n) c [] = refl
answers-take network stop (suc n) c (x ∷ xs) = ap (λ list. answer_of network stop c x ∷ list) (answers-take network stop n (after network stop c x) xs)

-- the first steps of a whole trace
pub front-of-whole : (plan : PlanView) (stop limit : ℕ) (whole steps : List Step) → IsWholeTrace plan stop whole → steps ≡ take limit whole → GoesToStop plan stop limit steps
front-of-whole plan stop limit whole steps h e =
    let network = plan.network in
    let first = at_start network plan.start in
    let front : AllChange (answers_of plan stop (take limit whole)) = rw (answers-take network stop limit first whole) (All-take (λ a. is_change a ≡ true) limit (answers network stop first whole) h.leads.each_changes) in
    let many = length-take limit whole in
    let n = h.count in
    let long : length steps ≡ min limit (needed plan stop) = ap length e ∙ many ∙ ap (min limit) n in
    record {
      list = record { leads = record { arrive = refl; each_changes = rw e front }; few = omega arith };
      count = long;
      whole = λ enough. (let all : take limit whole ≡ whole = take_all limit whole (omega arith) in subst (IsWholeTrace plan stop) (sym (e ∙ all)) h);
    }

-- Every step of nodes that move together changes something, and leaves no slot marked.
use Rattle.std.proofs.Common.{◌≡◌, ◌≢◌, ◌⊎◌, ℕ, zero, suc, ◌+◌, ◌<◌, true, false, nat_lt, List, [], ◌∷◌, length, map, set, get_or, sym, refl, ap, subst, ◌∙◌, inl, inr, ⊎_elim, arith}
use Rattle.std.specs.List.{All, AllPairs, flat_map, range_with_len}
use Rattle.std.proofs.lemmas.List.{get_or-set_same, get_or-set_other}
use Rattle.std.proofs.lemmas.List.Elements.{All-nil, All-cons}
use Rattle.std.proofs.lemmas.Bool.{cases_eq, cases_lt, false≢true}
use Rattle.std.proofs.lemmas.Bool.Decides.{nat_tests}
use Rattle.link_net.specs.Neighbours.{Neighbours, IsNetwork, degree, neighbour}
use Rattle.unison_world.specs.declared.step.Step.TheVariants.{Read, Write}
use Rattle.unison_world.specs.declared.step.Answer.{Answer}
use Rattle.unison_world.specs.declared.step.Answer.TheVariants.{Moved}
use Rattle.unison_world.specs.Counting.{Counts, moves_of, marks_of, is_marked, change, marked, moved, run, answers, HasShape, InStep}
use Rattle.unison_world.specs.Turns.{neighbours_of, any_behind}
use Rattle.unison_world.proofs.Sights.{cases_bool, lt_true}
use Rattle.unison_world.proofs.Steps.{shape-moved, marked-moved}
use Rattle.unison_world.proofs.Turnings.{Free, Has, any-finds, any-tells, neighbour_is, neighbours_many}
use Rattle.unison_world.proofs.Writes.{answer-ready}
use Rattle.unison_trace.specs.Histories.{is_change}
use Rattle.run_schedule.specs.Daemons.{MayMove, is_enabled, reads_of, steps_together}
use Rattle.run_schedule.proofs.Resting.{answer-fresh, all-marked}
use Rattle.run_schedule.proofs.Sweeping.{AllChange as Change, Unmarked, both-change, free-marked, reads-change, run-append, unmarked-next}

-- what the reads of all slots of a node leave: its slots are marked, and all else is as it was
record LeavesRead (network : Neighbours) (u : ℕ) (c d : Counts) : Type 0 where
  shape : HasShape network d
  moves : d.moves ≡ c.moves
  others : (v k : ℕ) → v ≢ u → is_marked d v k ≡ is_marked c v k
  own : (k : ℕ) → k < degree network u → is_marked d u k ≡ true

read-leaves : (network : Neighbours) (stop u a n : ℕ) (c : Counts) → Free network stop u c → Unmarked c u a → ((k : ℕ) → k < a → is_marked c u k ≡ true) → a + n ≡ degree network u
    → LeavesRead network u c (run network stop c (map (λ j. Read u j) (range_with_len a n)))
read-leaves network stop u a zero c f none done fit = record { shape = f.shape; moves = refl; others = λ v k n. refl; own = λ k h. done k (omega arith) }
read-leaves network stop u a (suc n) c f none done fit =
    let inside : a < degree network u = omega arith in
    let has : u < length c.marks = (let x = f.shape.marks in let b = f.node in omega arith) in
    let slot : a < length (marks_of c u) = (let s = f.shape.slots u in omega arith) in
    let taken = answer-fresh network stop c u a f.node inside f.unstopped (f.ahead a inside) (none a (omega arith)) in
    let here : (k : ℕ) → is_marked (marked c u a) u k ≡ get_or (set (marks_of c u) a true) k false = λ k. ap (λ bs. get_or bs k false) (get_or-set_same c.marks u (set (marks_of c u) a true) [] has) in
    let rest : LeavesRead network u (marked c u a) (run network stop (marked c u a) (map (λ j. Read u j) (range_with_len (a + 1) n))) =
    read-leaves network stop u (a + 1) n (marked c u a) (free-marked network stop u a c f) (unmarked-next network stop u a c f none)
    (λ k h. here k ∙ ⊎_elim (λ e. rw e (get_or-set_same (marks_of c u) a true false slot)) (λ e. get_or-set_other (marks_of c u) a k true false e ∙ done k (omega arith)) (cases_eq k a))
    (omega arith) in
    let all : LeavesRead network u c (run network stop (marked c u a) (map (λ j. Read u j) (range_with_len (a + 1) n))) =
    record {
      shape = rest.shape;
      moves = rest.moves;
      others = λ v k o. rest.others v k o ∙ ap (λ bs. get_or bs k false) (get_or-set_other c.marks u v (set (marks_of c u) a true) [] o);
      own = rest.own;
    } in
    subst (λ (x : Answer). LeavesRead network u c (run network stop (change c (Read u a) x) (map (λ j. Read u j) (range_with_len (a + 1) n)))) (sym taken) all

-- each number is below those after it
abbrev Rises : List ℕ → Type 0
Rises [] = Unit {0}
Rises (u ∷ us) = ((v : ℕ) → Has v us → u < v) × Rises us

pub has-at : (us : List ℕ) (v : ℕ) → Has v us → (i : ℕ) × (i < length us) × ((d : ℕ) → get_or us i d ≡ v)
has-at [] v h = absurd h
has-at (u ∷ us) v h =
    ⊎_elim (λ e. (0, omega arith, λ d. sym e)) (λ r. (let p = has-at us v r in let l = p.1 in (suc p.0, omega arith, p.2))) h

rises-from : (us : List ℕ) → AllPairs (λ u v. u < v) us → Rises us
rises-from [] h = tt
rises-from (u ∷ us) h = (
  λ v m. (let p = has-at us v m in let l = p.1 in let e = p.2 0 in let less = h 0 (suc p.0) 0 (omega arith) (omega arith) in omega arith),
  rises-from us (λ i j d l m. h (suc i) (suc j) d (omega arith) (omega arith)),
)

all-has : (P : ℕ → Type 0) (us : List ℕ) → All P us → (v : ℕ) → Has v us → P v
all-has P us h v m = (let p = has-at us v m in subst P (p.2 0) (h p.0 0 p.1))

has-or-not : (v : ℕ) (us : List ℕ) → Has v us ⊎ (Has v us → ⊥)
has-or-not v [] = inr (λ h. h)
has-or-not v (u ∷ us) =
    ⊎_elim
    (λ e. inl (inl e))
    (λ n. ⊎_elim (λ h. inl (inr h)) (λ no. inr (λ h. ⊎_elim (λ e. n e) (λ r. no r) h)) (has-or-not v us))
    (cases_eq v u)

-- a node stays free where no count changes
free-same : (network : Neighbours) (stop v : ℕ) (c d : Counts) → d.moves ≡ c.moves → HasShape network d → Free network stop v c → Free network stop v d
free-same network stop v c d e shape f =
    let same : (w : ℕ) → moves_of d w ≡ moves_of c w = λ w. ap (λ (ms : List ℕ). get_or ms w 0) e in
    record {
      shape = shape;
      node = f.node;
      unstopped = λ s. f.unstopped (sym (same v) ∙ s);
      ahead = λ j l. (let a = f.ahead j l in let m = same v in let n = same (neighbour network v j) in omega arith);
    }

-- what the reads of several nodes leave
record LeavesAllRead (network : Neighbours) (us : List ℕ) (c d : Counts) : Type 0 where
  shape : HasShape network d
  moves : d.moves ≡ c.moves
  others : (v k : ℕ) → (Has v us → ⊥) → is_marked d v k ≡ is_marked c v k
  own : (v k : ℕ) → Has v us → k < degree network v → is_marked d v k ≡ true

all-read : (network : Neighbours) (stop : ℕ) (us : List ℕ) (c : Counts) → HasShape network c → Rises us → ((v : ℕ) → Has v us → Free network stop v c) → ((v : ℕ) → Has v us → Unmarked c v 0)
    → Change (answers network stop c (flat_map (reads_of network) us)) × LeavesAllRead network us c (run network stop c (flat_map (reads_of network) us))
all-read network stop [] c shape rises free bare =
    (All-nil (λ a. is_change a ≡ true), record { shape = shape; moves = refl; others = λ v k n. refl; own = λ v k h l. absurd h })
all-read network stop (u ∷ us) c shape rises free bare =
    let f = free u (inl refl) in
    let none = bare u (inl refl) in
    let one = reads-change network stop u 0 (degree network u) c f none (omega arith) in
    let leaves = read-leaves network stop u 0 (degree network u) c f none (λ k h. absurd (omega arith)) (omega arith) in
    let d = run network stop c (reads_of network u) in
    let apart : (v : ℕ) → Has v us → v ≢ u = λ v h e. (let l = rises.0 v h in omega arith) in
    let rest = all-read network stop us d leaves.shape rises.1
    (λ v h. free-same network stop v c d leaves.moves leaves.shape (free v (inr h)))
    (λ v h k l. leaves.others v k (apart v h) ∙ bare v (inr h) k l) in
    let last : LeavesAllRead network (u ∷ us) c (run network stop d (flat_map (reads_of network) us)) =
    record {
      shape = rest.1.shape;
      moves = rest.1.moves ∙ leaves.moves;
      others = λ v k n. rest.1.others v k (λ h. n (inr h)) ∙ leaves.others v k (λ e. n (inl e));
      own = λ v k h l.
          ⊎_elim
          (λ mine. rest.1.own v k mine l)
          (λ not_mine.
          ⊎_elim
          (λ e. rest.1.others v k not_mine ∙ subst (λ x. is_marked d x k ≡ true) (sym e) (leaves.own k (subst (λ x. k < degree network x) e l)))
          (λ r. absurd (not_mine r))
          h)
          (has-or-not v us);
    } in (
      both-change network stop c (reads_of network u) (flat_map (reads_of network) us) one rest.0,
      subst (LeavesAllRead network (u ∷ us) c) (sym (run-append network stop c (reads_of network u) (flat_map (reads_of network) us))) last,
    )

-- what the moves of several nodes leave
record LeavesMoved (us : List ℕ) (c d : Counts) : Type 0 where
  stays : (v : ℕ) → (Has v us → ⊥) → moves_of d v ≡ moves_of c v
  counts : (v : ℕ) → Has v us → moves_of d v ≡ moves_of c v + 1
  others : (v k : ℕ) → (Has v us → ⊥) → is_marked d v k ≡ is_marked c v k
  own : (v k : ℕ) → Has v us → is_marked d v k ≡ false

-- a node that has read all its slots, and is below the stop
record IsReadyIn (network : Neighbours) (stop u : ℕ) (c : Counts) : Type 0 where
  there : u < length network
  unstopped : moves_of c u ≢ stop
  marks : (k : ℕ) → k < degree network u → is_marked c u k ≡ true

others-marked : (c : Counts) (u v k : ℕ) → v ≢ u → is_marked (moved c u) v k ≡ is_marked c v k
others-marked c u v k n = ap (λ bs. get_or bs k false) (get_or-set_other c.marks u v (map (λ _. false) (marks_of c u)) [] n)

own-cleared : (c : Counts) (u k : ℕ) → u < length c.marks → is_marked (moved c u) u k ≡ false
own-cleared c u k h = ⊎_elim (λ t. absurd ((marked-moved c u u k h t).0 refl)) (λ t. t) (cases_bool (is_marked (moved c u) u k))

all-moved : (network : Neighbours) (stop : ℕ) (us : List ℕ) (c : Counts) → HasShape network c → Rises us → ((v : ℕ) → Has v us → IsReadyIn network stop v c)
    → Change (answers network stop c (map (λ u. Write u) us)) × LeavesMoved us c (run network stop c (map (λ u. Write u) us))
all-moved network stop [] c shape rises ready = (All-nil (λ a. is_change a ≡ true), record { stays = λ v n. refl; counts = λ v h. absurd h; others = λ v k n. refl; own = λ v k h. absurd h })
all-moved network stop (u ∷ us) c shape rises ready =
    let r = ready u (inl refl) in
    let here : u < length c.marks = (let m = shape.marks in let t = r.there in omega arith) in
    let counts : u < length c.moves = (let m = shape.moves in let t = r.there in omega arith) in
    let apart : (v : ℕ) → Has v us → v ≢ u = λ v h e. (let l = rises.0 v h in omega arith) in
    let same : (v : ℕ) → v ≢ u → moves_of (moved c u) v ≡ moves_of c v = λ v n. get_or-set_other c.moves u v (moves_of c u + 1) 0 n in
    let moves = answer-ready network stop c u r.there r.unstopped (all-marked c u (degree network u) r.marks) in
    let rest = all-moved network stop us (moved c u) (shape-moved network c u shape) rises.1
    (λ v h.
    let o = ready v (inr h) in
    record { there = o.there; unstopped = λ s. o.unstopped (sym (same v (apart v h)) ∙ s); marks = λ k l. others-marked c u v k (apart v h) ∙ o.marks k l }) in
    let last : LeavesMoved (u ∷ us) c (run network stop (moved c u) (map (λ u. Write u) us)) =
    record {
      stays = λ v n. rest.1.stays v (λ h. n (inr h)) ∙ same v (λ e. n (inl e));
      counts = λ v h.
          ⊎_elim
          (λ mine. rest.1.counts v mine ∙ ap (λ n. n + 1) (same v (apart v mine)))
          (λ not_mine.
          ⊎_elim
          (λ e. rest.1.stays v not_mine ∙ subst (λ x. moves_of (moved c u) x ≡ moves_of c x + 1) (sym e) (get_or-set_same c.moves u (moves_of c u + 1) 0 counts))
          (λ r. absurd (not_mine r))
          h)
          (has-or-not v us);
      others = λ v k n. rest.1.others v k (λ h. n (inr h)) ∙ others-marked c u v k (λ e. n (inl e));
      own = λ v k h.
          ⊎_elim
          (λ mine. rest.1.own v k mine)
          (λ not_mine. ⊎_elim (λ e. rest.1.others v k not_mine ∙ subst (λ x. is_marked (moved c u) x k ≡ false) (sym e) (own-cleared c u k here)) (λ r. absurd (not_mine r)) h)
          (has-or-not v us);
    } in
    let first : Change (Moved ∷ answers network stop (change c (Write u) Moved) (map (λ u. Write u) us)) =
    All-cons (λ a. is_change a ≡ true) Moved (answers network stop (moved c u) (map (λ u. Write u) us)) refl rest.0 in (
      subst (λ (x : Answer). Change (x ∷ answers network stop (change c (Write u) x) (map (λ u. Write u) us))) (sym moves) first,
      subst (λ (x : Answer). LeavesMoved (u ∷ us) c (run network stop (change c (Write u) x) (map (λ u. Write u) us))) (sym moves) last,
    )

pub enabled-parts : (network : Neighbours) (stop : ℕ) (c : Counts) (u : ℕ) → is_enabled network stop c u ≡ true → (u < length network) × (moves_of c u ≢ stop) × (any_behind network c u ≡ false)
enabled-parts network stop c u e = grind (arith, nat_tests)

-- an enabled node is free to make a turn
pub enabled-free : (network : Neighbours) (stop : ℕ) (c : Counts) (u : ℕ) → HasShape network c → is_enabled network stop c u ≡ true → Free network stop u c
enabled-free network stop c u shape e =
    let o = enabled-parts network stop c u e in
    record {
      shape = shape;
      node = o.0;
      unstopped = o.1;
      ahead = λ j h.
          (let t = any-tells (λ w. nat_lt (moves_of c w) (moves_of c u)) (neighbours_of network u) o.2 j (omega (arith, h, neighbours_many network u)) in
          let n = neighbour_is network u j in
          ⊎_elim (λ l. absurd (false≢true (sym (rw n at t) ∙ lt_true (moves_of c (neighbour network u j)) (moves_of c u) l))) (λ l. l) (cases_lt (moves_of c (neighbour network u j)) (moves_of c u)));
    }

-- nodes that may move together do, where no slot is marked, and none is marked then; each has moved once more
pub together : (network : Neighbours) (stop : ℕ) (us : List ℕ) (c : Counts) → HasShape network c → ((u j : ℕ) → is_marked c u j ≡ false) → MayMove network stop c us
    → Change (answers network stop c (steps_together network us)) × ((u j : ℕ) → is_marked (run network stop c (steps_together network us)) u j ≡ false)
    × ((u : ℕ) → Has u us → moves_of (run network stop c (steps_together network us)) u ≡ moves_of c u + 1)
together network stop us c shape bare may =
    let rises = rises-from us may.rising in
    let free : (v : ℕ) → Has v us → Free network stop v c = λ v h. enabled-free network stop c v shape (all-has (λ u. is_enabled network stop c u ≡ true) us may.enabled v h) in
    let reads = flat_map (reads_of network) us in
    let writes = map (λ u. Write u) us in
    let read = all-read network stop us c shape rises free (λ v h k l. bare v k) in
    let d = run network stop c reads in
    let wrote = all-moved network stop us d read.1.shape rises
    (λ v h.
    let f = free-same network stop v c d read.1.moves read.1.shape (free v h) in
    record { there = f.node; unstopped = f.unstopped; marks = λ k l. read.1.own v k h l }) in
    let none : (u j : ℕ) → is_marked (run network stop d writes) u j ≡ false =
    λ u j. ⊎_elim (λ h. wrote.1.own u j h) (λ n. wrote.1.others u j n ∙ read.1.others u j n ∙ bare u j) (has-or-not u us) in (
      both-change network stop c reads writes read.0 wrote.0,
      λ u j. ap (λ (x : Counts). is_marked x u j) (run-append network stop c reads writes) ∙ none u j,
      λ u h. ap (λ (x : Counts). moves_of x u) (run-append network stop c reads writes) ∙ wrote.1.counts u h ∙ ap (λ (ms : List ℕ). get_or ms u 0 + 1) read.1.moves,
    )

pub enabled-from : (network : Neighbours) (stop : ℕ) (c : Counts) (u : ℕ) → u < length network → moves_of c u ≢ stop → any_behind network c u ≡ false → is_enabled network stop c u ≡ true
enabled-from network stop c u a b d = grind (arith, nat_tests)

lt-tells : (a b : ℕ) → nat_lt a b ≡ true → a < b
lt-tells a b e = grind (arith, nat_tests)

-- where no node is enabled, each stands at the stop
none-below : (network : Neighbours) (stop : ℕ) (c : Counts) → IsNetwork network → ((u : ℕ) → is_enabled network stop c u ≡ false) → (m u : ℕ) → u < length network → moves_of c u < m → moves_of c u < stop → ⊥
none-below network stop c net rest zero u h low below = omega arith
none-below network stop c net rest (suc m) u h low below =
    ⊎_elim
    (λ b.
    let k = any-finds (λ w. nat_lt (moves_of c w) (moves_of c u)) (neighbours_of network u) b in
    let inside : k.0 < degree network u = (let l = k.1 in omega (arith, l, neighbours_many network u)) in
    let n = neighbour_is network u k.0 in
    let less = lt-tells (moves_of c (neighbour network u k.0)) (moves_of c u) (rw n at k.2) in
    none-below network stop c net rest m (neighbour network u k.0) (net.within u k.0 inside) (omega arith) (omega arith))
    (λ b. absurd (false≢true (sym (rest u) ∙ enabled-from network stop c u h (λ e. omega arith) b)))
    (cases_bool (any_behind network c u))

pub at-stop : (network : Neighbours) (stop : ℕ) (c : Counts) → IsNetwork network → InStep network stop c → ((u : ℕ) → is_enabled network stop c u ≡ false) → (u : ℕ) → u < length network → moves_of c u ≡ stop
at-stop network stop c net is rest u h =
    ⊎_elim (λ l. absurd (none-below network stop c net rest (moves_of c u + 1) u h (omega arith) l)) (λ l. (let w = is.within u in omega arith)) (cases_lt (moves_of c u) stop)

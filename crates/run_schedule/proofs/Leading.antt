-- Turns that wait, and what their steps change.
use Rattle.std.proofs.Common.{◌≡◌, ◌≢◌, ℕ, zero, suc, ◌+◌, ◌<◌, ◌≤◌, ◌==◌, Bool, true, false, List, [], ◌∷◌, ◌++◌, length, length-append, take, set, Some, None, slice_get, sym, refl, ap, subst, ◌∙◌, inl, inr, ⊎_elim, arith}
use Rattle.std.proofs.lemmas.List.{get_or-set_same, get_or-set_other, get_or_past, take_all, take-append-le}
use Rattle.std.proofs.lemmas.Option.{slice_get_within}
use Rattle.std.proofs.lemmas.Bool.{cases_eq, cases_lt, false≢true}
use Rattle.std.proofs.lemmas.Bool.Decides.{nat_tests}
use Rattle.link_net.specs.Neighbours.{Neighbours, degree, neighbour}
use Rattle.rounds_plan.specs.Plans.{PlanView}
use Rattle.unison_world.specs.declared.step.Step.{Step}
use Rattle.unison_world.specs.declared.step.Step.TheVariants.{Read, Write}
use Rattle.unison_world.specs.declared.step.Answer.TheVariants.{Taken, Moved}
use Rattle.unison_world.specs.Counting.{Counts, moves_of, marks_of, is_marked, answer_of, change, marked, moved, InStep}
use Rattle.unison_world.specs.View.{WorldView, with_counts, opened}
use Rattle.unison_world.proofs.Sights.{cases_bool}
use Rattle.unison_world.proofs.Starts.{slice_get-push}
use Rattle.unison_world.proofs.Steps.{moves-moved, marked-moved, marked-marked, moves-at_start, marked-at_start}
use Rattle.unison_world.proofs.Writes.{answer-ready}
use Rattle.unison_trace.specs.Histories.{is_change, run_of}
use Rattle.run_schedule.specs.declared.ahead.Turn.{Turn}
use Rattle.run_schedule.specs.Leading.{AreTurns, HasLed, IsBehind, IsLeftBack, IsReady, IsTurn, StaysAhead, WaitsFor}
use Rattle.run_schedule.specs.Walks.{WalkView, GoesOn, IsSound, IsWalk, is_open, walk_after, with_step}
use Rattle.run_schedule.specs.Ways.{IsWay}
use Rattle.run_schedule.proofs.Resting.{all-marked, answer-fresh}

slice_get-last : {X : Type 0} (xs : List X) (x : X) → slice_get (xs ++ x ∷ []) (length xs) ≡ Some x
slice_get-last [] x = refl
slice_get-last (y ∷ xs) x = slice_get-last xs x

slice_get-front : {X : Type 0} (xs : List X) (x y : X) (i : ℕ) → slice_get xs i ≡ Some y → slice_get (xs ++ x ∷ []) i ≡ Some y
slice_get-front [] x y i e = cc
slice_get-front (z ∷ xs) x y zero e = e
slice_get-front (z ∷ xs) x y (suc i) e = slice_get-front xs x y i e

-- the last turn
pub last-turn : (w : WorldView) (node : ℕ) (turns : List Turn) (turn : Turn) → AreTurns w node (turns ++ turn ∷ []) → IsTurn w node (length turns) turn
last-turn w node turns turn is = is.each (length turns) turn (slice_get-last turns turn)

going : (turns : List Turn) (turn : Turn) → 0 < length (turns ++ turn ∷ [])
going turns turn = omega (arith, length-append turns (turn ∷ []))

last-below : (w : WorldView) (node : ℕ) (turns : List Turn) (turn : Turn) → AreTurns w node (turns ++ turn ∷ []) → moves_of w.counts turn.node < w.stop
last-below w node turns turn is = (let t = (last-turn w node turns turn is).down in let b = is.below (going turns turn) in omega arith)

-- the other turns are those of other nodes
others : (w : WorldView) (node : ℕ) (turns : List Turn) (turn other : Turn) (i : ℕ) → AreTurns w node (turns ++ turn ∷ []) → slice_get turns i ≡ Some other → other.node ≢ turn.node
others w node turns turn other i is e same =
    let mine = (last-turn w node turns turn is).down in
    let theirs = (is.each i other (slice_get-front turns turn other i e)).down in
    let inside = slice_get_within turns i other e in
    let m = ap (moves_of w.counts) same in
    omega arith

-- the slots from the turn's on are not read
unread : (w : WorldView) (node : ℕ) (turns : List Turn) (turn : Turn) → AreTurns w node (turns ++ turn ∷ []) → is_marked w.counts turn.node turn.slot ≡ false
unread w node turns turn is =
    ⊎_elim
    (λ t.
    let o = is.only turn.node turn.slot t in
    let l = o.4 in
    ⊎_elim
    (λ e. absurd (others w node turns turn o.1 o.0 is e o.3))
    (λ e. (let m = ap (λ (x : Turn). x.slot) e.1 in absurd (omega arith)))
    (slice_get-push turns turn o.1 o.0 o.2))
    (λ f. f)
    (cases_bool (is_marked w.counts turn.node turn.slot))

-- the step of the last turn is taken
pub turn-reads : (w : WorldView) (node : ℕ) (turns : List Turn) (turn : Turn) → AreTurns w node (turns ++ turn ∷ []) → IsReady w turn → turn.slot < degree w.plan.network turn.node → answer_of w.plan.network w.stop w.counts (Read turn.node turn.slot) ≡ Taken
turn-reads w node turns turn is ready h =
    let t = last-turn w node turns turn is in
    let below = last-below w node turns turn is in
    answer-fresh w.plan.network w.stop w.counts turn.node turn.slot t.there h (λ e. omega arith) (ready h) (unread w node turns turn is)

pub turn-writes : (w : WorldView) (node : ℕ) (turns : List Turn) (turn : Turn) → AreTurns w node (turns ++ turn ∷ []) → degree w.plan.network turn.node ≤ turn.slot → answer_of w.plan.network w.stop w.counts (Write turn.node) ≡ Moved
turn-writes w node turns turn is h =
    let t = last-turn w node turns turn is in
    let below = last-below w node turns turn is in
    answer-ready w.plan.network w.stop w.counts turn.node t.there (λ e. omega arith) (all-marked w.counts turn.node (degree w.plan.network turn.node) (λ k l. t.read k (omega arith)))

marked-keeps : (c : Counts) (u j v i : ℕ) → u < length c.marks → is_marked c v i ≡ true → is_marked (marked c u j) v i ≡ true
marked-keeps c u j v i h e =
    ⊎_elim
    (λ s.
    let at : is_marked c u i ≡ true = rw s at e in
    rw s (rw (get_or-set_same c.marks u (set (marks_of c u) j true) [] h)
    (⊎_elim
    (λ n. rw n (⊎_elim (λ l. get_or-set_same (marks_of c u) j true false l) (λ l. absurd (false≢true (sym (get_or_past (marks_of c u) j false l) ∙ rw n at at))) (cases_lt j (length (marks_of c u)))))
    (λ n. get_or-set_other (marks_of c u) j i true false n ∙ at)
    (cases_eq i j))))
    (λ n. rw (get_or-set_other c.marks u v (set (marks_of c u) j true) [] n) e)
    (cases_eq v u)

marked-there : (c : Counts) (u j : ℕ) → u < length c.marks → j < length (marks_of c u) → is_marked (marked c u j) u j ≡ true
marked-there c u j h l = rw (get_or-set_same c.marks u (set (marks_of c u) j true) [] h) (get_or-set_same (marks_of c u) j true false l)

-- a read more
pub turns-read : (w : WorldView) (node : ℕ) (turns : List Turn) (turn next : Turn) → IsSound w → AreTurns w node (turns ++ turn ∷ []) → turn.slot < degree w.plan.network turn.node → next.node ≡ turn.node → next.slot ≡ turn.slot + 1
    → AreTurns (with_counts w (marked w.counts turn.node turn.slot)) node (turns ++ next ∷ [])
turns-read w node turns turn next sound is h same more =
    let c = w.counts in
    let t = last-turn w node turns turn is in
    let u = turn.node in
    let j = turn.slot in
    let many = sound.shape.marks in
    let there = t.there in
    let inside : u < length c.marks = omega arith in
    let wide = sound.shape.slots u in
    let v = with_counts w (marked c u j) in
    record {
      here = is.here;
      each = λ i x e.
          ⊎_elim
          (λ f.
          let o = is.each i x (slice_get-front turns turn x i f) in
          record { there = o.there; slots = o.slots; way = o.way; down = o.down; read = λ k l. marked-keeps c u j x.node k inside (o.read k l) })
          (λ f.
          let n = ap (λ (y : Turn). y.node) f.1 ∙ same in
          let s = ap (λ (y : Turn). y.slot) f.1 ∙ more in
          rw (f.0, n)
          (record {
            there = t.there;
            slots = omega arith;
            way = t.way;
            down = t.down;
            read = λ k l.
                ⊎_elim (λ b. marked-keeps c u j u k inside (t.read k b)) (λ b. (let z : k ≡ j = omega arith in rw z (marked-there c u j inside (omega arith)))) (cases_lt k j);
          }))
          (slice_get-push turns next x i e);
      only = λ a b e.
          ⊎_elim
          (λ f. (length turns, next, slice_get-last turns next, same ∙ sym f.0, (let z = f.1 in omega arith)))
          (λ f.
          let o = is.only a b f in
          let l = o.4 in
          ⊎_elim
          (λ g. (o.0, o.1, slice_get-front turns next o.1 o.0 g, o.3, o.4))
          (λ g.
          let n = ap (λ (y : Turn). y.node) g.1 in
          let s = ap (λ (y : Turn). y.slot) g.1 in
          (length turns, next, slice_get-last turns next, same ∙ sym n ∙ o.3, omega arith))
          (slice_get-push turns turn o.1 o.0 o.2))
          (marked-marked c u j a b inside e);
      below = λ _. is.below (going turns turn);
      moved = λ a l.
          ⊎_elim (λ e. inl e) (λ m. (let k = m.2 in inr (m.0, m.1, omega (arith, k, length-append turns (turn ∷ []), length-append turns (next ∷ []))))) (is.moved a l);
    }

way-none : (network : Neighbours) (n u v : ℕ) → n ≡ 0 → IsWay network n u v → u ≡ v
way-none network zero u v e way = way
way-none network (suc n) u v e way = absurd (omega arith)

-- a move: the turn ends
pub turns-moved : (w : WorldView) (node : ℕ) (turns : List Turn) (turn : Turn) → IsSound w → AreTurns w node (turns ++ turn ∷ []) → AreTurns (with_counts w (moved w.counts turn.node)) node turns
turns-moved w node turns turn sound is =
    let c = w.counts in
    let network = w.plan.network in
    let t = last-turn w node turns turn is in
    let u = turn.node in
    let down = t.down in
    let there = t.there in
    let wide = sound.shape.moves in
    let tall = sound.shape.marks in
    let inside : u < length c.moves = omega arith in
    let within : u < length c.marks = omega arith in
    let rest : (v : ℕ) → v ≢ u → moves_of (moved c u) v ≡ moves_of c v = λ v n. ⊎_elim (λ e. absurd (n e.0)) (λ e. e.1) (moves-moved c u v inside) in
    let mine : moves_of (moved c u) u ≡ moves_of c u + 1 = ⊎_elim (λ e. e.1) (λ e. absurd (e.0 refl)) (moves-moved c u u inside) in
    let leader : 0 < length turns → moves_of (moved c u) node ≡ moves_of c node = λ some. rest node (λ e. (let m = ap (moves_of c) e in omega arith)) in
    let last : length turns ≡ 0 → u ≡ node = λ none. way-none network (length turns) u node none t.way in
    let all = going turns turn in
    record {
      here = is.here;
      each = λ i x e.
          let o = is.each i x (slice_get-front turns turn x i e) in
          let other = others w node turns turn x i is e in
          let some = slice_get_within turns i x e in
          let a = rest x.node other in
          let b = leader (omega arith) in
          let d = o.down in
          record {
            there = o.there;
            slots = o.slots;
            way = o.way;
            down = omega arith;
            read = λ k l. rw (get_or-set_other c.marks u x.node _ [] other) (o.read k l);
          };
      only = λ a b e.
          let f = marked-moved c u a b within e in
          let o = is.only a b f.1 in
          ⊎_elim (λ g. (o.0, o.1, g, o.3, o.4)) (λ g. absurd (f.0 (sym o.3 ∙ ap (λ (y : Turn). y.node) g.1))) (slice_get-push turns turn o.1 o.0 o.2);
      below = λ some. (let a = leader some in let b = is.below all in omega arith);
      moved = λ v l.
          ⊎_elim
          (λ none.
          let z = last (omega arith) in
          let m = ap (moves_of c) z in
          let m' = ap (moves_of (moved c u)) z in
          ⊎_elim
          (λ e. (let n = ap (moves_of (moved c u)) e in inr (0, e ∙ z, omega arith)))
          (λ n. (let r = rest v n in ⊎_elim (λ s. inl (r ∙ s)) (λ s. (let k = s.2 in inr (s.0, s.1, omega arith))) (is.moved v l)))
          (cases_eq v u))
          (λ some.
          let a = leader some in
          ⊎_elim
          (λ e. (let n = ap (moves_of (moved c u)) e in inr (length turns, subst (λ x. IsWay network (length turns) x node) (sym e) t.way, omega arith)))
          (λ n. (let r = rest v n in ⊎_elim (λ s. inl (r ∙ s)) (λ s. (let k = s.2 in inr (s.0, s.1, omega arith))) (is.moved v l)))
          (cases_eq v u))
          (cases_lt (length turns) 1);
    }

-- a turn of the neighbour for which the last one waits
pub turns-wait : (w : WorldView) (node : ℕ) (turns : List Turn) (turn next : Turn) (v : ℕ) → IsSound w → AreTurns w node (turns ++ turn ∷ []) → WaitsFor w turn v → next.node ≡ v → next.slot ≡ 0 → AreTurns w node ((turns ++ turn ∷ []) ++ next ∷ [])
turns-wait w node turns turn next v sound is waits same none =
    let network = w.plan.network in
    let net = sound.plan.network in
    let t = last-turn w node turns turn is in
    let u = turn.node in
    let j = turn.slot in
    let to : next.node ≡ neighbour network u j = same ∙ waits.is in
    let back = net.both_ways u j waits.slot in
    let near = sound.in_step.near u j waits.slot in
    let many = length-append turns (turn ∷ []) in
    let k : length (turns ++ turn ∷ []) ≡ suc (length turns) = omega (arith, many) in
    let low = waits.behind in
    let lower = ap (moves_of w.counts) waits.is in
    let down = t.down in
    record {
      here = is.here;
      each = λ i x e.
          ⊎_elim
          (λ f. is.each i x f)
          (λ f.
          let n = ap (λ (y : Turn). y.node) f.1 ∙ to in
          let s = ap (λ (y : Turn). y.slot) f.1 ∙ none in
          let m = ap (moves_of w.counts) n in
          rw (f.0, k)
          (record {
            there = rw n (net.within u j waits.slot);
            slots = omega arith;
            way = rw n (back.0, back.1, rw back.2 t.way);
            down = omega arith;
            read = λ a l. absurd (omega arith);
          }))
          (slice_get-push (turns ++ turn ∷ []) next x i e);
      only = λ a b e. (let o = is.only a b e in (o.0, o.1, slice_get-front (turns ++ turn ∷ []) next o.1 o.0 o.2, o.3, o.4));
      below = λ _. is.below (going turns turn);
      moved = λ a l.
          ⊎_elim (λ e. inl e) (λ m. (let d = m.2 in inr (m.0, m.1, omega (arith, d, many, length-append (turns ++ turn ∷ []) (next ∷ []))))) (is.moved a l);
    }

-- a turn of the node that leads, where none waits
pub turns-begin : (w : WorldView) (node : ℕ) (turn : Turn) → AreTurns w node [] → turn.node ≡ node → turn.slot ≡ 0 → moves_of w.counts node < w.stop → AreTurns w node (turn ∷ [])
turns-begin w node turn is same none below =
    record {
      here = is.here;
      each = λ i x e.
          ⊎_elim
          (λ f. cc)
          (λ f.
          let n = ap (λ (y : Turn). y.node) f.1 ∙ same in
          let s = ap (λ (y : Turn). y.slot) f.1 ∙ none in
          let m = ap (moves_of w.counts) n in
          rw f.0 (record { there = rw n is.here; slots = omega arith; way = n; down = omega arith; read = λ a l. absurd (omega arith) }))
          (slice_get-push [] turn x i e);
      only = λ a b e. (let o = is.only a b e in let f = o.2 in cc);
      below = λ _. below;
      moved = λ a l. ⊎_elim (λ e. inl e) (λ m. (let d = m.2 in inr (m.0, m.1, omega arith))) (is.moved a l);
    }

-- before any step no turn waits
pub turns-none : (plan : PlanView) (stop node : ℕ) → node < length plan.network → AreTurns (opened plan stop) node []
turns-none plan stop node h =
    record {
      here = h;
      each = λ i x e. cc;
      only = λ a b e. absurd (false≢true (sym (marked-at_start plan.network plan.start a b) ∙ e));
      below = λ l. absurd (omega arith);
      moved = λ a l. inl (moves-at_start plan.network plan.start a l);
    }

-- while turns wait, every node is behind the one that leads
pub turns-behind : (w : WorldView) (node : ℕ) (turns : List Turn) → IsSound w → AreTurns w node turns → (u : ℕ) → u < length w.plan.network → IsBehind w.plan w.counts node u
turns-behind w node turns sound is u h =
    let begun = sound.started node is.here in
    let low = sound.started u h in
    ⊎_elim
    (λ e. record { least = omega arith; near = λ n d. omega arith; apart = λ none. e })
    (λ m.
    let most = m.2 in
    record {
      least = ⊎_elim (λ z. (let s = ap (moves_of w.counts) (way-none w.plan.network m.0 u node (omega arith) m.1) in omega arith)) (λ z. omega arith) (cases_lt m.0 1);
      near = λ n d. (let l = d.least m.0 m.1 in omega arith);
      apart = λ none. absurd (none m.0 m.1);
    })
    (is.moved u h)

-- counts of nodes differ by no more than the links between them
way-far : (network : Neighbours) (stop : ℕ) (c : Counts) → InStep network stop c → (n u v : ℕ) → IsWay network n u v → moves_of c v ≤ moves_of c u + n
way-far network stop c is zero u v e = (let m = ap (moves_of c) e in omega arith)
way-far network stop c is (suc n) u v w =
    let r = way-far network stop c is n (neighbour network u w.0) v w.2 in
    let near = is.near u w.0 w.1 in
    omega arith

-- where a node was led to the stop, each other is left back
pub led-back : (w : WorldView) (node : ℕ) → IsSound w → HasLed w node → (u : ℕ) → u < length w.plan.network → IsLeftBack w.plan w.stop w.counts node u
led-back w node sound led u h =
    let low = sound.started u h in
    let top = led.stop in
    record {
      near = λ n d.
          let far = way-far w.plan.network w.stop w.counts sound.in_step n u node d.way in
          ⊎_elim (λ e. omega arith) (λ m. (let l = d.least m.0 m.1 in let k = m.2 in omega arith)) (led.moved u h);
      apart = λ none. ⊎_elim (λ e. e) (λ m. absurd (none m.0 m.1)) (led.moved u h);
    }

-- at the stop no turn waits
pub turns-led : (w : WorldView) (node : ℕ) (turns : List Turn) → AreTurns w node turns → moves_of w.counts node ≡ w.stop → HasLed w node
turns-led w node turns is e =
    let none : length turns ≡ 0 = ⊎_elim (λ l. omega arith) (λ l. (let b = is.below (omega arith) in absurd (omega arith))) (cases_lt (length turns) 1) in
    record { stop = e; moved = λ u h. ⊎_elim (λ s. inl s) (λ m. (let k = m.2 in inr (m.0, m.1, omega arith))) (is.moved u h) }

-- one step more
pub stays-more : (plan : PlanView) (stop node : ℕ) (c : Counts) (steps : List Step) (step : Step) → StaysAhead plan stop node steps → run_of plan stop (steps ++ step ∷ []) ≡ c → ((u : ℕ) → u < length plan.network → IsBehind plan c node u)
    → StaysAhead plan stop node (steps ++ step ∷ [])
stays-more plan stop node c steps step stays arrive behind = λ k u h.
    ⊎_elim
    (λ l. subst (λ xs. IsBehind plan (run_of plan stop xs) node u) (sym (take-append-le k steps (step ∷ []) (omega arith))) (stays k u h))
    (λ l.
    let whole : take k (steps ++ step ∷ []) ≡ steps ++ step ∷ [] = take_all k (steps ++ step ∷ []) (omega (arith, length-append steps (step ∷ []))) in
    subst (λ xs. IsBehind plan (run_of plan stop xs) node u) (sym whole) (subst (λ x. IsBehind plan x node u) (sym arrive) (behind u h)))
    (cases_lt k (length steps + 1))

-- no step yet
pub stays-none : (w : WorldView) (node : ℕ) (steps : List Step) → steps ≡ [] → w ≡ opened w.plan w.stop → IsSound w → AreTurns w node [] → StaysAhead w.plan w.stop node steps
stays-none w node steps none is sound turns = λ k u h.
    let nothing : take k steps ≡ [] = rw none (take_all k [] (omega arith)) in
    let counts : run_of w.plan w.stop [] ≡ w.counts = ap (λ (x : WorldView). x.counts) (sym is) in
    subst (λ xs. IsBehind w.plan (run_of w.plan w.stop xs) node u) (sym nothing) (subst (λ x. IsBehind w.plan x node u) (sym counts) (turns-behind w node [] sound turns u h))

-- a list that is one step longer
pub stays-step : (w v : WalkView) (node : ℕ) (step : Step) (turns : List Turn) → StaysAhead w.world.plan w.world.stop node w.steps → GoesOn w v → v.steps ≡ w.steps ++ step ∷ [] → IsWalk v → IsSound v.world → AreTurns v.world node turns
    → StaysAhead v.world.plan v.world.stop node v.steps
stays-step w v node step turns stays goes e is sound wait =
    let plan = v.world.plan in
    let stop = v.world.stop in
    let before : StaysAhead plan stop node w.steps =
    subst (λ (p : PlanView). StaysAhead p stop node w.steps) (sym goes.plan) (subst (λ (x : ℕ). StaysAhead w.world.plan x node w.steps) (sym goes.stop) stays) in
    let arrive : run_of plan stop (w.steps ++ step ∷ []) ≡ v.world.counts = ap (run_of plan stop) (sym e) ∙ is.leads.arrive in
    subst (λ (xs : List Step). StaysAhead plan stop node xs) (sym e) (stays-more plan stop node v.world.counts w.steps step before arrive (turns-behind v.world node turns sound wait))

-- a step that changes something is made
step-made : (w v : WalkView) (step : Step) → v ≡ walk_after w step → w.still ≡ None → is_change (answer_of w.world.plan.network w.world.stop w.world.counts step) ≡ true → v ≡ with_step w step
step-made w v step e none changes = (let o : is_open w step ≡ true = rw none changes in rw o at e)

pub made-read : (w v : WalkView) (u j : ℕ) → v ≡ walk_after w (Read u j) → w.still ≡ None → answer_of w.world.plan.network w.world.stop w.world.counts (Read u j) ≡ Taken
    → (v.world ≡ with_counts w.world (marked w.world.counts u j)) × (v.steps ≡ w.steps ++ Read u j ∷ [])
made-read w v u j e none a =
    let f = step-made w v (Read u j) e none (ap is_change a) in
    (ap (λ (x : WalkView). x.world) f ∙ ap (λ x. with_counts w.world (change w.world.counts (Read u j) x)) a, ap (λ (x : WalkView). x.steps) f)

pub made-write : (w v : WalkView) (u : ℕ) → v ≡ walk_after w (Write u) → w.still ≡ None → answer_of w.world.plan.network w.world.stop w.world.counts (Write u) ≡ Moved
    → (v.world ≡ with_counts w.world (moved w.world.counts u)) × (v.steps ≡ w.steps ++ Write u ∷ [])
made-write w v u e none a =
    let f = step-made w v (Write u) e none (ap is_change a) in
    (ap (λ (x : WalkView). x.world) f ∙ ap (λ x. with_counts w.world (change w.world.counts (Write u) x)) a, ap (λ (x : WalkView). x.steps) f)

pub test-equal : (a b : ℕ) (r : Bool) → r ≡ (a == b) → r ≡ true → a ≡ b
test-equal a b r e f = grind (arith, nat_tests)

pub test-unequal : (a b : ℕ) (r : Bool) → r ≡ (a == b) → r ≡ false → a ≢ b
test-unequal a b r e f = grind (arith, nat_tests)

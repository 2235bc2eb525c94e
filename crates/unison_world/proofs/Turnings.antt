-- The reads and the write of a whole turn leave the counts that a move leaves.
use Rattle.std.proofs.Common.{◌≡◌, ◌≢◌, ◌⊎◌, ℕ, zero, suc, ◌+◌, ◌<◌, ◌≤◌, Bool, true, false, not, List, [], ◌∷◌, ◌++◌, length, map, set, get_or, sym, refl, ap, ◌∙◌, inl, inr, ⊎_elim, arith, nat_lt}
use Rattle.std.specs.List.{range_with_len, filter, list_any}
use Rattle.std.proofs.lemmas.List.{get_or-set_same, get_or-set_other, set-set, length-map}
use Rattle.std.proofs.lemmas.Bool.{cases_eq, cases_lt, false≢true}
use Rattle.std.proofs.lemmas.Bool.Decides.{nat_tests, Decides-below_and}
use Rattle.link_net.specs.Neighbours.{Neighbours, row, degree, neighbour, numbers_below}
use Rattle.unison_world.specs.declared.step.Step.{Step}
use Rattle.unison_world.specs.declared.step.Step.TheVariants.{Read, Write}
use Rattle.unison_world.specs.declared.step.Answer.{Answer}
use Rattle.unison_world.specs.declared.step.Answer.TheVariants as answer
use Rattle.unison_world.specs.declared.step.TurnAnswer.TheVariants as turns
use Rattle.unison_world.specs.Counting.{Counts, moves_of, marks_of, is_marked, all_marked, answer_of, change, marked, moved, after, run, HasShape}
use Rattle.unison_world.specs.Turns.{neighbours_of, any_behind, turn_answer, turn_change, after_turn}
use Rattle.unison_world.proofs.Steps.{shape-marked, get_or-map_each}
use Rattle.unison_world.proofs.Sights.{cases_bool, lt_true}
use Rattle.unison_world.proofs.Writes.{answer-ready}

-- one step more
pub run-snoc : (network : Neighbours) (stop : ℕ) (c : Counts) (steps : List Step) (step : Step) → run network stop c (steps ++ step ∷ []) ≡ after network stop (run network stop c steps) step
run-snoc network stop c [] step = refl
run-snoc network stop c (s ∷ steps) step = run-snoc network stop (after network stop c s) steps step

range-push : (a n : ℕ) → range_with_len a (suc n) ≡ range_with_len a n ++ (a + n) ∷ []
range-push a zero = (let e : a + 0 ≡ a = omega arith in ap (λ x. x ∷ []) (sym e))
range-push a (suc n) = (let e : (a + 1) + n ≡ a + suc n = omega arith in ap (λ xs. a ∷ xs) (range-push (a + 1) n ∙ ap (λ x. range_with_len (a + 1) n ++ x ∷ []) e))

map-snoc : {X Y : Type 0} (f : X → Y) (xs : List X) (x : X) → map f (xs ++ x ∷ []) ≡ map f xs ++ f x ∷ []
map-snoc f [] x = refl
map-snoc f (y ∷ xs) x = ap (λ ys. f y ∷ ys) (map-snoc f xs x)

-- one slot more
pub reads-more : (network : Neighbours) (stop : ℕ) (c : Counts) (u i : ℕ)
    → run network stop c (map (λ j. Read u j) (range_with_len 0 (i + 1))) ≡ after network stop (run network stop c (map (λ j. Read u j) (range_with_len 0 i))) (Read u i)
reads-more network stop c u i =
    let e : i + 1 ≡ suc i = omega arith in
    let z : 0 + i ≡ i = omega arith in
    ap (λ n. run network stop c (map (λ j. Read u j) (range_with_len 0 n))) e
    ∙ ap (λ js. run network stop c (map (λ j. Read u j) js)) (range-push 0 i ∙ ap (λ x. range_with_len 0 i ++ x ∷ []) z)
    ∙ ap (run network stop c) (map-snoc (λ j. Read u j) (range_with_len 0 i) i)
    ∙ run-snoc network stop c (map (λ j. Read u j) (range_with_len 0 i)) (Read u i)

-- a test of some item
pub any-true : (f : ℕ → Bool) (ws : List ℕ) (k : ℕ) → k < length ws → f (get_or ws k 0) ≡ true → list_any f ws ≡ true
any-true f [] k h e = absurd (omega arith)
any-true f (w ∷ ws) zero h e = rw e refl
any-true f (w ∷ ws) (suc k) h e =
    ⊎_elim (λ t. rw t refl) (λ t. rw t (any-true f ws k (omega arith) e)) (cases_bool (f w))

pub any-false : (f : ℕ → Bool) (ws : List ℕ) → ((k : ℕ) → k < length ws → f (get_or ws k 0) ≡ false) → list_any f ws ≡ false
any-false f [] h = refl
any-false f (w ∷ ws) h = rw (h 0 (omega arith)) (any-false f ws (λ k l. h (suc k) (omega arith)))

pub any-tells : (f : ℕ → Bool) (ws : List ℕ) → list_any f ws ≡ false → (k : ℕ) → k < length ws → f (get_or ws k 0) ≡ false
any-tells f ws e k h = ⊎_elim (λ t. absurd (false≢true (sym e ∙ any-true f ws k h t))) (λ t. t) (cases_bool (f (get_or ws k 0)))

pub any-finds : (f : ℕ → Bool) (ws : List ℕ) → list_any f ws ≡ true → (k : ℕ) × (k < length ws) × (f (get_or ws k 0) ≡ true)
any-finds f [] e = absurd (false≢true e)
any-finds f (w ∷ ws) e =
    ⊎_elim
    (λ t. (0, omega arith, t))
    (λ t. (let r = rw t at e in let k = any-finds f ws r in let l = k.1 in (suc k.0, omega arith, k.2)))
    (cases_bool (f w))

pub neighbour_is : (network : Neighbours) (u j : ℕ) → get_or (neighbours_of network u) j 0 ≡ neighbour network u j
neighbour_is network u j = get_or-map_each (λ (a : ℕ × ℕ). a.0) (row network u) j (0, 0)

pub neighbours_many : (network : Neighbours) (u : ℕ) → length (neighbours_of network u) ≡ degree network u
neighbours_many network u = length-map (row network u) (λ (a : ℕ × ℕ). a.0)

-- a number stands in the list
abbrev pub Has : ℕ → List ℕ → Type 0
Has k [] = ⊥
Has k (j ∷ js) = (k ≡ j) ⊎ Has k js

pub has_range : (a n k : ℕ) → a ≤ k → k < a + n → Has k (range_with_len a n)
has_range a zero k h l = absurd (omega arith)
has_range a (suc n) k h l = ⊎_elim (λ e. inl e) (λ e. inr (has_range (a + 1) n k (omega arith) (omega arith))) (cases_eq k a)

range_has : (a n k : ℕ) → Has k (range_with_len a n) → k < a + n
range_has a zero k h = absurd h
range_has a (suc n) k h = ⊎_elim (λ e. omega arith) (λ e. (let r = range_has (a + 1) n k e in omega arith)) h

has_filter : (f : ℕ → Bool) (js : List ℕ) (k : ℕ) → Has k js → f k ≡ true → Has k (filter f js)
has_filter f [] k h e = absurd h
has_filter f (j ∷ js) k h e =
    ⊎_elim
    (λ s. (let t : f j ≡ true = rw s at e in rw t (inl s)))
    (λ r. ⊎_elim (λ t. rw t (inr (has_filter f js k r e))) (λ t. rw t (has_filter f js k r e)) (cases_bool (f j)))
    h

filter_has : (f : ℕ → Bool) (js : List ℕ) (k : ℕ) → Has k (filter f js) → Has k js
filter_has f [] k h = h
filter_has f (j ∷ js) k h =
    ⊎_elim
    (λ t. (let r = rw t at h in ⊎_elim (λ s. inl s) (λ s. inr (filter_has f js k s)) r))
    (λ t. (let r = rw t at h in inr (filter_has f js k r)))
    (cases_bool (f j))

all_false-set : (bs : List Bool) (j : ℕ) → map (λ (b : Bool). false) (set bs j true) ≡ map (λ (b : Bool). false) bs
all_false-set [] j = refl
all_false-set (b ∷ bs) zero = refl
all_false-set (b ∷ bs) (suc j) = ap (λ xs. false ∷ xs) (all_false-set bs j)

moved-marked : (c : Counts) (u j : ℕ) → u < length c.marks → moved (marked c u j) u ≡ moved c u
moved-marked c u j h =
    let row' = set (marks_of c u) j true in
    let e : set (set c.marks u row') u (map (λ (b : Bool). false) (get_or (set c.marks u row') u [])) ≡ set c.marks u (map (λ (b : Bool). false) (marks_of c u)) =
    rw (get_or-set_same c.marks u row' [] h) (set-set c.marks u row' _ ∙ ap (set c.marks u) (all_false-set (marks_of c u) j)) in
    let show : List (List Bool) → Counts = λ m. record { moves = set c.moves u (moves_of c u + 1); marks = m } in
    ap show e

-- a node that isn't stopped, and no neighbour of which is behind
pub record Free (network : Neighbours) (stop : ℕ) (u : ℕ) (c : Counts) : Type 0 where
  pub shape : HasShape network c
  pub node : u < length network
  pub unstopped : moves_of c u ≢ stop
  pub ahead : (j : ℕ) → j < degree network u → moves_of c u ≤ moves_of c (neighbour network u j)

free-marked : (network : Neighbours) (stop u j : ℕ) (c : Counts) → Free network stop u c → Free network stop u (marked c u j)
free-marked network stop u j c f = record { shape = shape-marked network c u j f.shape; node = f.node; unstopped = f.unstopped; ahead = f.ahead }

answer-taken' : (network : Neighbours) (stop : ℕ) (c : Counts) (u j : ℕ) → u < length network → j < degree network u → moves_of c u ≢ stop → moves_of c u ≤ moves_of c (neighbour network u j) → is_marked c u j ≡ false → answer_of network stop c (Read u j) ≡ answer.Taken
answer-taken' network stop c u j a b d e f = grind (arith, nat_tests)

answer-already' : (network : Neighbours) (stop : ℕ) (c : Counts) (u j : ℕ) → u < length network → j < degree network u → moves_of c u ≢ stop → is_marked c u j ≡ true → answer_of network stop c (Read u j) ≡ answer.Already
answer-already' network stop c u j a b d e = grind (arith, nat_tests)

unmarked-before : (c : Counts) (u j k : ℕ) → u < length c.marks → j < length (marks_of c u) → is_marked (marked c u j) u k ≡ false → (is_marked c u k ≡ false) × (k ≢ j)
unmarked-before c u j k h l e =
    let f = rw (get_or-set_same c.marks u (set (marks_of c u) j true) [] h) at e in
    let ne : k ≢ j = λ s. (let g = rw s at f in false≢true (sym g ∙ get_or-set_same (marks_of c u) j true false l)) in
    (sym (get_or-set_other (marks_of c u) j k true false ne) ∙ f, ne)

run_turn : (network : Neighbours) (stop u : ℕ) (js : List ℕ) (c : Counts) → Free network stop u c → ((j : ℕ) → Has j js → j < degree network u) → ((k : ℕ) → k < degree network u → is_marked c u k ≡ false → Has k js)
    → run network stop c (map (λ j. Read u j) js ++ Write u ∷ []) ≡ moved c u
run_turn network stop u [] c f low covers =
    let all : all_marked c u (degree network u) ≡ true =
    (Decides-below_and (is_marked c u) (λ k. is_marked c u k ≡ true) (all_marked c u) (λ k. (λ e. e, λ e. e)) refl (λ _. refl) (degree network u)).1
    (λ k h. ⊎_elim (λ t. t) (λ e. absurd (covers k h e)) (cases_bool (is_marked c u k))) in
    rw (answer-ready network stop c u f.node f.unstopped all) refl
run_turn network stop u (j ∷ js) c f low covers =
    let below : j < degree network u = low j (inl refl) in
    let has : u < length c.marks = (let a = f.shape.marks in let b = f.node in omega arith) in
    let slot : j < length (marks_of c u) = (let a = f.shape.slots u in omega arith) in
    let next : Answer → Counts = λ a. run network stop (change c (Read u j) a) (map (λ j. Read u j) js ++ Write u ∷ []) in
    ⊎_elim
    (λ t. ap next (answer-already' network stop c u j f.node below f.unstopped t)
    ∙ (run_turn network stop u js c f (λ k h. low k (inr h)) (λ k h e. ⊎_elim (λ s. absurd (false≢true (sym (rw s at e) ∙ t))) (λ r. r) (covers k h e))))
    (λ t. ap next (answer-taken' network stop c u j f.node below f.unstopped (f.ahead j below) t)
    ∙ (run_turn network stop u js (marked c u j) (free-marked network stop u j c f) (λ k h. low k (inr h))
    (λ k h e. (let b = unmarked-before c u j k has slot e in ⊎_elim (λ s. absurd (b.1 s)) (λ r. r) (covers k h b.0)))
    ∙ moved-marked c u j has))
    (cases_bool (is_marked c u j))

turn-opens : (network : Neighbours) (stop : ℕ) (c : Counts) (u : ℕ) → turn_answer network stop c u ≡ turns.Moved → (u < length network) × (moves_of c u ≢ stop) × (any_behind network c u ≡ false)
turn-opens network stop c u e = grind (arith, nat_tests)

pub turn-moves : (network : Neighbours) (stop : ℕ) (c : Counts) (u : ℕ) → u < length network → moves_of c u ≢ stop → any_behind network c u ≡ false → turn_answer network stop c u ≡ turns.Moved
turn-moves network stop c u a b d = grind (arith, nat_tests)

-- where a turn moves, its node is free
pub turn-free : (network : Neighbours) (stop : ℕ) (c : Counts) (u : ℕ) → HasShape network c → turn_answer network stop c u ≡ turns.Moved → Free network stop u c
turn-free network stop c u shape e =
    let o = turn-opens network stop c u e in
    record {
      shape = shape;
      node = o.0;
      unstopped = o.1;
      ahead = λ j h.
          (let t = any-tells (λ w. nat_lt (moves_of c w) (moves_of c u)) (neighbours_of network u) o.2 j (omega (arith, h, neighbours_many network u)) in
          let n = neighbour_is network u j in
          ⊎_elim (λ l. absurd (false≢true (sym (rw n at t) ∙ lt_true (moves_of c (neighbour network u j)) (moves_of c u) l))) (λ l. l) (cases_lt (moves_of c (neighbour network u j)) (moves_of c u)));
    }

-- reads of all slots, and the write
pub run-all : (network : Neighbours) (stop : ℕ) (c : Counts) (u : ℕ) → Free network stop u c → run network stop c (map (λ j. Read u j) (numbers_below (degree network u)) ++ Write u ∷ []) ≡ moved c u
run-all network stop c u f =
    run_turn network stop u (numbers_below (degree network u)) c f (λ j h. (let r = range_has 0 (degree network u) j h in omega arith)) (λ k h e. has_range 0 (degree network u) k (omega arith) (omega arith))

-- a turn that moves leaves the counts of a move
pub turn-moved : (network : Neighbours) (stop : ℕ) (c : Counts) (u : ℕ) → HasShape network c → turn_answer network stop c u ≡ turns.Moved → after_turn network stop c u ≡ moved c u
turn-moved network stop c u shape e =
    let f = turn-free network stop c u shape e in
    ap (turn_change network stop c u) e
    ∙ run_turn network stop u (filter (λ j. not (is_marked c u j)) (numbers_below (degree network u))) c f
    (λ j h. (let r = range_has 0 (degree network u) j (filter_has (λ j. not (is_marked c u j)) (numbers_below (degree network u)) j h) in omega arith))
    (λ k h n. has_filter (λ j. not (is_marked c u j)) (numbers_below (degree network u)) k (has_range 0 (degree network u) k (omega arith) (omega arith)) (ap not n))

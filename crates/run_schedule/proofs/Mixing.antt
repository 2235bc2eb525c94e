-- Refused steps change nothing of what a list leads to.
use Rattle.std.proofs.Common.{◌≡◌, ◌≢◌, ℕ, ◌+◌, ◌<◌, ◌≤◌, true, false, List, [], ◌∷◌, ◌++◌, length, take, append-nil, append_assoc, length-append, sym, refl, ap, ◌∙◌, ⊎_elim, arith, nat_lt, if◌then◌else◌}
use Rattle.std.specs.List.{All}
use Rattle.std.proofs.lemmas.List.{length-take, take_all}
use Rattle.std.proofs.lemmas.List.Elements.{All-push}
use Rattle.std.proofs.lemmas.Bool.{cases_lt, false≢true}
use Rattle.std.proofs.lemmas.Bool.Decides.{nat_tests}
use Rattle.link_net.specs.Neighbours.{Neighbours, degree}
use Rattle.unison_world.specs.declared.step.Step.{Step}
use Rattle.unison_world.specs.declared.step.Step.TheVariants.{Read, Write}
use Rattle.unison_world.specs.declared.step.Answer.{Answer}
use Rattle.unison_world.specs.declared.step.Answer.TheVariants.{Taken, Moved, Stopped}
use Rattle.unison_world.specs.Counting.{Counts, moves_of, all_marked, answer_of, change, after, run}
use Rattle.unison_world.specs.View.{WorldView}
use Rattle.unison_world.proofs.Steps.{all_marked_tells}
use Rattle.unison_world.proofs.Taken.{answer-already}
use Rattle.unison_world.proofs.Writes.{answer-unready}
use Rattle.unison_world.proofs.Sights.{cases_bool, lt_false, lt_true}
use Rattle.unison_world.proofs.Turnings.{run-snoc}
use Rattle.unison_trace.specs.Histories.{is_change}
use Rattle.run_schedule.specs.Mixing.{changing, HasLink, IsLinked, IsRefused, MayStand, StandAmong}
use Rattle.run_schedule.proofs.Fronts.{front-more}

changing-more : (network : Neighbours) (stop : ℕ) (c : Counts) (xs : List Step) (s : Step) → changing network stop c (xs ++ s ∷ []) ≡ changing network stop c xs ++ (if is_change (answer_of network stop (run network stop c xs) s) then s ∷ [] else [])
changing-more network stop c [] s = refl
changing-more network stop c (x ∷ xs) s =
    let r = changing-more network stop (after network stop c x) xs s in
    ⊎_elim (λ t. rw t (ap (λ ys. x ∷ ys) r)) (λ t. rw t r) (cases_bool (is_change (answer_of network stop c x)))

unchanged : (c : Counts) (step : Step) (a : Answer) → is_change a ≡ false → change c step a ≡ c
unchanged c (Read u j) a = elim a as (λ a. is_change a ≡ false → change c (Read u j) a ≡ c) [ Taken ↦ λ e. cc | _ ↦ λ e. refl ]
unchanged c (Write u) a = elim a as (λ a. is_change a ≡ false → change c (Write u) a ≡ c) [ Moved ↦ λ e. cc | _ ↦ λ e. refl ]

-- a refused step at the end
pub refused-more : (network : Neighbours) (stop : ℕ) (c d : Counts) (xs : List Step) (s : Step) → run network stop c xs ≡ d → is_change (answer_of network stop d s) ≡ false
    → (run network stop c (xs ++ s ∷ []) ≡ d) × (changing network stop c (xs ++ s ∷ []) ≡ changing network stop c xs)
refused-more network stop c d xs s e f =
    let g : is_change (answer_of network stop (run network stop c xs) s) ≡ false = rw e f in
    let none : (if is_change (answer_of network stop (run network stop c xs) s) then s ∷ [] else []) ≡ [] = rw g refl in (
      run-snoc network stop c xs s ∙ unchanged (run network stop c xs) s (answer_of network stop (run network stop c xs) s) g ∙ e,
      changing-more network stop c xs s ∙ ap (λ ys. changing network stop c xs ++ ys) none ∙ append-nil (changing network stop c xs),
    )

-- the same step at the end of two lists that lead to the same counts
pub both-more : (network : Neighbours) (stop : ℕ) (c d : Counts) (xs ys : List Step) (s : Step) → run network stop c xs ≡ d → run network stop c ys ≡ d → changing network stop c xs ≡ changing network stop c ys
    → (run network stop c (xs ++ s ∷ []) ≡ after network stop d s) × (changing network stop c (xs ++ s ∷ []) ≡ changing network stop c (ys ++ s ∷ []))
both-more network stop c d xs ys s e f g =
    let last : Counts → List Step = λ x. if is_change (answer_of network stop x s) then s ∷ [] else [] in (
      run-snoc network stop c xs s ∙ ap (λ x. after network stop x s) e,
      changing-more network stop c xs s ∙ ap (λ zs. zs ++ last (run network stop c xs)) g ∙ ap (λ x. changing network stop c ys ++ last x) (e ∙ sym f) ∙ sym (changing-more network stop c ys s),
    )

answer-ended : (network : Neighbours) (stop : ℕ) (c : Counts) (u : ℕ) → u < length network → moves_of c u ≡ stop → answer_of network stop c (Write u) ≡ Stopped
answer-ended network stop c u h e = grind (arith, nat_tests)

-- a node that would move is below the stop, and has read all its slots
write-tells : (network : Neighbours) (stop : ℕ) (c : Counts) (u : ℕ) → u < length network → is_change (answer_of network stop c (Write u)) ≡ true → (moves_of c u ≢ stop) × (all_marked c u (degree network u) ≡ true)
write-tells network stop c u h e =
    let unstopped : moves_of c u ≢ stop = λ s. false≢true (sym (ap is_change (answer-ended network stop c u h s)) ∙ e) in (
      unstopped,
      ⊎_elim (λ t. t) (λ f. absurd (false≢true (ap is_change (answer-unready network stop c u h unstopped f) ∙ e))) (cases_bool (all_marked c u (degree network u))),
    )

-- then a read of it is refused
pub read-refused : (network : Neighbours) (stop : ℕ) (c : Counts) (u : ℕ) → IsLinked network u → is_change (answer_of network stop c (Write u)) ≡ true → IsRefused network stop c (Read u 0)
read-refused network stop c u linked e =
    let t = write-tells network stop c u linked.0 e in
    record { there = linked; idle = sym (ap is_change (answer-already network stop c u 0 linked.0 linked.1 t.0 (all_marked_tells c u (degree network u) t.1 0 linked.1))) }

-- refused steps that were put so far, one for each of n draws
pub record PutSoFar (w : WorldView) (percent limit n : ℕ) (old new refused : List Step) : Type 0 where
  pub each : All (IsRefused w.plan.network w.stop w.counts) refused
  pub few : length refused ≤ n
  pub none : percent ≡ 0 → refused ≡ []
  pub all : 100 ≤ percent → HasLink w.plan.network → length refused ≡ n
  pub put : new ≡ take limit (old ++ refused)

pub so_far-none : (w : WorldView) (percent limit : ℕ) (old : List Step) → length old ≤ limit → PutSoFar w percent limit 0 old old []
so_far-none w percent limit old few =
    record { each = λ k d l. absurd (omega arith); few = omega arith; none = λ _. refl; all = λ _ _. refl; put = sym (ap (take limit) (append-nil old) ∙ take_all limit old few) }

pub so_far-more : (w : WorldView) (percent limit n : ℕ) (old now next refused : List Step) (s : Step) → PutSoFar w percent limit n old now refused → IsRefused w.plan.network w.stop w.counts s → 0 < percent → next ≡ take limit (now ++ s ∷ [])
    → PutSoFar w percent limit (n + 1) old next (refused ++ s ∷ [])
so_far-more w percent limit n old now next refused s is r some e =
    let l = length-append refused (s ∷ []) in
    let few = is.few in
    record {
      each = All-push (IsRefused w.plan.network w.stop w.counts) refused s is.each r;
      few = omega (arith, l, few);
      none = λ z. absurd (omega arith);
      all = λ full link. (let m = is.all full link in omega (arith, l, m));
      put = front-more limit old refused (s ∷ []) now next is.put e;
    }

-- a step more, behind refused ones
pub among-more : (network : Neighbours) (stop percent : ℕ) (c : Counts) (xs : List Step) (s : Step) (mixed refused : List Step) → StandAmong network stop percent c xs mixed → MayStand network stop percent (run network stop c xs) refused
    → StandAmong network stop percent c (xs ++ s ∷ []) (mixed ++ (refused ++ s ∷ []))
among-more network stop percent c [] s mixed refused e may = (refused, [], ap (λ ys. ys ++ (refused ++ s ∷ [])) e, may, refl)
among-more network stop percent c (x ∷ xs) s mixed refused h may =
    let last = refused ++ s ∷ [] in (
      h.0,
      h.1 ++ last,
      ap (λ ys. ys ++ last) h.2 ∙ append_assoc h.0 (x ∷ h.1) last,
      h.3,
      among-more network stop percent (after network stop c x) xs s h.1 refused h.4 may,
    )

-- a front that is shorter than it may be is all
pub front-exact : {X : Type 0} (n : ℕ) (xs now : List X) → now ≡ take n xs → length now < n → now ≡ xs
front-exact n xs now e h = (let l = length-take n xs in let m = ap length e in e ∙ take_all n xs (omega arith))

-- nodes that have a neighbour, after one node more
pub linked-more : (network : Neighbours) (u : ℕ) (old new : List ℕ) → u < length network → new ≡ (if nat_lt 0 (degree network u) then old ++ u ∷ [] else old) → All (IsLinked network) old
    → ((v : ℕ) → v < u → 0 < degree network v → 0 < length old) → All (IsLinked network) new × ((v : ℕ) → v < u + 1 → 0 < degree network v → 0 < length new)
linked-more network u old new here e each some =
    ⊎_elim
    (λ l.
    let f : new ≡ old ++ u ∷ [] = rw (lt_true 0 (degree network u) l) at e in
    let m = ap length f in (
      rw f (All-push (IsLinked network) old u each (here, l)),
      λ v _ _. omega (arith, m, length-append old (u ∷ [])),
    ))
    (λ l.
    let f : new ≡ old = rw (lt_false 0 (degree network u) l) at e in
    let m = ap length f in (
      rw f each,
      λ v below d. ⊎_elim (λ a. (let s = some v a d in omega arith)) (λ a. (let z : v ≡ u = omega arith in let g = ap (degree network) z in absurd (omega arith))) (cases_lt v u),
    ))
    (cases_lt 0 (degree network u))

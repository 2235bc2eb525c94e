-- Walks whose nodes a daemon chooses, group by group.
use Rattle.std.proofs.Common.{◌≡◌, ℕ, zero, suc, ◌<◌, ◌==◌, Bool, true, List, [], ◌∷◌, ◌++◌, length, length-append, append-nil, map, take, drop, get_or, append_assoc, None, Result, Ok, Err, sym, refl, ap, subst, ◌∙◌, arith}
use Rattle.std.specs.List.{flat_map}
use Rattle.std.specs.Result.{OnOk}
use Rattle.std.proofs.lemmas.List.{take_all, take-append-drop, length-map}
use Rattle.std.proofs.lemmas.Bool.Decides.{nat_tests}
use Rattle.link_net.specs.Neighbours.{Neighbours, IsNetwork, degree, neighbour}
use Rattle.rounds_plan.specs.Plans.{PlanView}
use Rattle.unison_world.specs.declared.step.Step.{Step}
use Rattle.unison_world.specs.declared.step.Step.TheVariants.{Read, Write}
use Rattle.unison_world.specs.declared.step.Answer.{Answer}
use Rattle.unison_world.specs.declared.step.Answer.TheVariants.{Stopped}
use Rattle.unison_world.specs.Counting.{Counts, moves_of, is_marked, at_start, answer_of, after, run, answers}
use Rattle.unison_world.specs.Turns.{neighbours_of}
use Rattle.unison_world.specs.View.{WorldView, opened}
use Rattle.unison_world.proofs.Steps.{marked-at_start}
use Rattle.unison_world.proofs.Turnings.{any-finds, neighbour_is, neighbours_many, run-snoc}
use Rattle.unison_trace.specs.Histories.{is_change, run_of}
use Rattle.run_schedule.specs.declared.daemon.Daemon.{Daemon}
use Rattle.run_schedule.specs.declared.daemon.Daemon.TheVariants.{Central, Synchronous, Distributed, Adversary}
use Rattle.run_schedule.specs.declared.fault.Halt.{Halt}
use Rattle.run_schedule.specs.declared.manner.Manner.TheVariants.{Under}
use Rattle.run_schedule.specs.Daemons.{AllChange, AreChoices, AreStepsUnder, HasMoved, IsBare, IsChoice, KeepsTwo, NoneFree, is_linked, reads_of, steps_together}
use Rattle.run_schedule.specs.Manners.{refusal_of}
use Rattle.run_schedule.specs.Walks.{WalkView, AtRest, GoesOn, IsFull, IsSound, IsWalk, is_open, walk_after, with_step}
use Rattle.run_schedule.proofs.Finding.{rests-everywhere}
use Rattle.run_schedule.proofs.Fronts.{flat_map-snoc, front-full}
use Rattle.run_schedule.proofs.Joint.{at-stop}
use Rattle.run_schedule.proofs.Sweeping.{run-append}

there-not : (n m : ℕ) (b : Bool) → n ≡ suc m → b ≡ (n == 0) → b ≡ true → ⊥
there-not n m b l e f = grind (arith, nat_tests)

-- the answer at a place of a list
answer-at : (network : Neighbours) (stop : ℕ) (c : Counts) (steps : List Step) (k : ℕ) (d : Answer) (e : Step) → k < length steps → get_or (answers network stop c steps) k d ≡ answer_of network stop (run network stop c (take k steps)) (get_or steps k e)
answer-at network stop c [] k d e h = absurd (omega arith)
answer-at network stop c (s ∷ steps) zero d e h = refl
answer-at network stop c (s ∷ steps) (suc k) d e h = answer-at network stop (after network stop c s) steps k d e (omega arith)

answers-many : (network : Neighbours) (stop : ℕ) (c : Counts) (steps : List Step) → length (answers network stop c steps) ≡ length steps
answers-many network stop c [] = refl
answers-many network stop c (s ∷ steps) = ap suc (answers-many network stop (after network stop c s) steps)

-- the step at a place of a list changes something, where the steps before it were made
pub changes-at : (w v : WorldView) (steps : List Step) (k : ℕ) (e : Step) → AllChange w steps → v.plan ≡ w.plan → v.stop ≡ w.stop → v.counts ≡ run w.plan.network w.stop w.counts (take k steps) → k < length steps → is_change (answer_of v.plan.network v.stop v.counts (get_or steps k e)) ≡ true
changes-at w v steps k e all plan stop counts h =
    let many = answers-many w.plan.network w.stop w.counts steps in
    let here = answer-at w.plan.network w.stop w.counts steps k Stopped e h in
    let told : is_change (answer_of w.plan.network w.stop (run w.plan.network w.stop w.counts (take k steps)) (get_or steps k e)) ≡ true = sym (ap is_change here) ∙ all k Stopped (omega arith) in
    rw (plan, stop, counts) told

-- a walk made the first steps of a list
pub record HasMade (old new : WalkView) (list : List Step) : Type 0 where
  pub goes : GoesOn old new
  pub steps : new.steps ≡ old.steps ++ list
  pub counts : new.world.counts ≡ run old.world.plan.network old.world.stop old.world.counts list

-- without a still node a step that changes something is open
pub open-without : (w : WalkView) (step : Step) → w.still ≡ None → is_change (answer_of w.world.plan.network w.world.stop w.world.counts step) ≡ true → is_open w step ≡ true
open-without w step none e = rw none e

pub made-none : (w : WalkView) → GoesOn w w → HasMade w w []
made-none w goes = record { goes = goes; steps = sym (append-nil w.steps); counts = refl }

pub made-more : (old now new : WalkView) (done : List Step) (step : Step) → HasMade old now done → GoesOn old new → new ≡ walk_after now step → is_open now step ≡ true → HasMade old new (done ++ step ∷ [])
made-more old now new done step made goes e free =
    let is : new ≡ with_step now step = rw free at e in
    record {
      goes = goes;
      steps = ap (λ (w : WalkView). w.steps) is ∙ ap (λ xs. xs ++ step ∷ []) made.steps ∙ append_assoc old.steps done (step ∷ []);
      counts = ap (λ (w : WalkView). w.world.counts) is
          ∙ rw (made.goes.plan, made.goes.stop) (ap (λ (c : Counts). after old.world.plan.network old.world.stop c step) made.counts)
          ∙ sym (run-snoc old.world.plan.network old.world.stop old.world.counts done step);
    }

-- as many steps as may be: the front of all
pub made-cut : (limit k : ℕ) (first steps now : List Step) → now ≡ first ++ take k steps → length now ≡ limit → now ≡ take limit (first ++ steps)
made-cut limit k first steps now e full =
    let whole : now ≡ take limit (first ++ take k steps) = e ∙ sym (take_all limit (first ++ take k steps) (let m = ap length e in omega arith)) in
    front-full limit (first ++ take k steps) (drop k steps) now whole (omega arith)
    ∙ ap (take limit) (append_assoc first (take k steps) (drop k steps) ∙ ap (λ xs. first ++ xs) (take-append-drop k steps))

-- a walk that is full has the front of all
pub made-full : (old now new : WalkView) (steps : List Step) (k : ℕ) (step : Step) → HasMade old now (take k steps) → new ≡ now → length now.steps ≡ now.limit → is_open now step ≡ true → IsFull new × (new.steps ≡ take old.limit (old.steps ++ steps))
made-full old now new steps k step made same full free =
    let limit = made.goes.limit in
    subst (λ (w : WalkView). IsFull w × (w.steps ≡ take old.limit (old.steps ++ steps))) (sym same)
    (record { full = full; more = (step, free) }, made-cut old.limit k old.steps steps now.steps made.steps (omega arith))

pub none-there : (xs : List ℕ) (n : ℕ) (b : Bool) → n ≡ length xs → b ≡ (n == 0) → b ≡ true → xs ≡ []
none-there [] n b l e f = refl
none-there (x ∷ xs) n b l e f = absurd (there-not n (length xs) b l e f)

pub on-ok : (r : Result (Unit {0}) Halt) (P Q : Type 0) → (P → Q) → OnOk r P → OnOk r Q
on-ok (Ok x) P Q f h = f h
on-ok (Err e) P Q f h = h

-- one group more
choices-push : (network : Neighbours) (stop : ℕ) (daemon : Daemon) (c : Counts) (groups : List (List ℕ)) (us : List ℕ) → AreChoices network stop daemon c groups
    → IsChoice network stop daemon (run network stop c (flat_map (steps_together network) groups)) us → AreChoices network stop daemon c (groups ++ us ∷ [])
choices-push network stop daemon c [] us h is = (is, tt)
choices-push network stop daemon c (g ∷ groups) us h is = (
  h.0,
  choices-push network stop daemon (run network stop c (steps_together network g)) groups us h.1
      (subst (λ (x : Counts). IsChoice network stop daemon x us) (run-append network stop c (steps_together network g) (flat_map (steps_together network) groups)) is),
)

-- the counts of a walk are those that its steps lead to
arrives : (w : WalkView) → IsWalk w → (groups : List (List ℕ)) → w.steps ≡ flat_map (steps_together w.world.plan.network) groups
    → run w.world.plan.network w.world.stop (at_start w.world.plan.network w.world.plan.start) (flat_map (steps_together w.world.plan.network) groups) ≡ w.world.counts
arrives w is groups e = ap (run_of w.world.plan w.world.stop) (sym e) ∙ is.leads.arrive

-- the groups so far, and the one that is chosen next
pub next-group : (w : WalkView) (daemon : Daemon) (us : List ℕ) → IsWalk w → HasMoved w daemon → IsChoice w.world.plan.network w.world.stop daemon w.world.counts us
    → (groups : List (List ℕ)) × AreChoices w.world.plan.network w.world.stop daemon (at_start w.world.plan.network w.world.plan.start) groups × (w.steps ++ steps_together w.world.plan.network us ≡ flat_map (steps_together w.world.plan.network) groups)
next-group w daemon us is moved choice =
    let network = w.world.plan.network in
    let g = moved.groups in (
      g.0 ++ us ∷ [],
      choices-push network w.world.stop daemon (at_start network w.world.plan.start) g.0 us g.1 (subst (λ (x : Counts). IsChoice network w.world.stop daemon x us) (sym (arrives w is g.0 g.2)) choice),
      ap (λ xs. xs ++ steps_together network us) g.2 ∙ sym (flat_map-snoc (steps_together network) g.0 us),
    )

pub moved-none : (w : WalkView) (daemon : Daemon) → w.still ≡ None → w.world ≡ opened w.world.plan w.world.stop → w.steps ≡ [] → HasMoved w daemon
moved-none w daemon none e begun =
    record {
      still = none;
      bare = λ u j. (let c = ap (λ (x : WorldView). x.counts) e in ap (λ (x : Counts). is_marked x u j) c ∙ marked-at_start w.world.plan.network w.world.plan.start u j);
      groups = ([], tt, begun);
    }

pub moved-more : (old new : WalkView) (daemon : Daemon) (us : List ℕ) → IsWalk old → HasMoved old daemon → IsChoice old.world.plan.network old.world.stop daemon old.world.counts us
    → GoesOn old new → IsBare new.world → new.steps ≡ old.steps ++ steps_together old.world.plan.network us → HasMoved new daemon
moved-more old new daemon us is moved choice goes bare made =
    let g = next-group old daemon us is moved choice in
    record { still = goes.still ∙ moved.still; bare = bare; groups = rw (goes.plan, goes.stop) (g.0, g.1, made ∙ g.2) }

-- whole groups
pub under-all : (w : WalkView) (daemon : Daemon) → IsWalk w → HasMoved w daemon → AreStepsUnder w.world.plan w.world.stop daemon w.limit w.steps
under-all w daemon is moved =
    let g = moved.groups in
    record { groups = (g.0, g.1, g.2 ∙ sym (take_all w.limit (flat_map (steps_together w.world.plan.network) g.0) (let few = is.few in let m = ap length g.2 in omega arith))) }

-- a group that is cut at the limit
pub under-cut : (old new : WalkView) (daemon : Daemon) (us : List ℕ) → IsWalk old → HasMoved old daemon → IsChoice old.world.plan.network old.world.stop daemon old.world.counts us
    → GoesOn old new → new.steps ≡ take old.limit (old.steps ++ steps_together old.world.plan.network us) → AreStepsUnder new.world.plan new.world.stop daemon new.limit new.steps
under-cut old new daemon us is moved choice goes made =
    let g = next-group old daemon us is moved choice in
    rw (goes.plan, goes.stop, goes.limit) (record { groups = (g.0, g.1, made ∙ ap (take old.limit) g.2) })

-- a group has a step
pub group-longer : (network : Neighbours) (us : List ℕ) → 0 < length us → 0 < length (steps_together network us)
group-longer network us some = omega (arith, some, length-append (flat_map (reads_of network) us) (map (λ u. Write u) us), length-map us (λ u. Write u))

answer-stopped : (network : Neighbours) (stop : ℕ) (c : Counts) (u j : ℕ) → u < length network → j < degree network u → moves_of c u ≡ stop → (answer_of network stop c (Read u j) ≡ Stopped) × (answer_of network stop c (Write u) ≡ Stopped)
answer-stopped network stop c u j h l e = (grind (arith, nat_tests), grind (arith, nat_tests))

write-stopped : (network : Neighbours) (stop : ℕ) (c : Counts) (u : ℕ) → u < length network → moves_of c u ≡ stop → answer_of network stop c (Write u) ≡ Stopped
write-stopped network stop c u h e = grind (arith, nat_tests)

-- where no node is enabled, no step is open
pub none-rests : (w : WalkView) → IsSound w.world → w.still ≡ None → NoneFree w.world None → AtRest w
none-rests w sound none rest =
    let network = w.world.plan.network in
    let stop = w.world.stop in
    let c = w.world.counts in
    let ended = at-stop network stop c sound.plan.network sound.in_step rest in
    rests-everywhere w
    (λ u h.
    record {
      reads = λ j l. rw none (ap is_change (answer-stopped network stop c u j h l (ended u h)).0);
      write = rw none (ap is_change (write-stopped network stop c u h (ended u h)));
    })

refusal-linked : (plan : PlanView) (stop seed ahead behind : ℕ) → refusal_of plan stop (Under (Adversary seed ahead behind)) ≡ None → is_linked plan.network ahead behind ≡ true
refusal-linked plan stop seed ahead behind e = grind (arith, nat_tests)

equal-tells : (a b : ℕ) → (a == b) ≡ true → a ≡ b
equal-tells a b e = grind (arith, nat_tests)

-- two nodes that are linked are different
pub keeps-two : (plan : PlanView) (stop : ℕ) (daemon : Daemon) → IsNetwork plan.network → refusal_of plan stop (Under daemon) ≡ None → KeepsTwo daemon
keeps-two plan stop (Central seed) net e = tt
keeps-two plan stop Synchronous net e = tt
keeps-two plan stop (Distributed seed share) net e = tt
keeps-two plan stop (Adversary seed ahead behind) net e =
    let network = plan.network in
    let linked = refusal-linked plan stop seed ahead behind e in
    let k = any-finds (λ w. w == behind) (neighbours_of network ahead) linked in
    let inside : k.0 < degree network ahead = (let l = k.1 in omega (arith, l, neighbours_many network ahead)) in
    let is : neighbour network ahead k.0 ≡ behind = sym (neighbour_is network ahead k.0) ∙ equal-tells (get_or (neighbours_of network ahead) k.0 0) behind k.2 in
    λ same. net.apart ahead k.0 inside (is ∙ sym same)

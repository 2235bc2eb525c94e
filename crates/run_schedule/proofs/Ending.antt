-- What walks that end leave.
use Rattle.std.proofs.Common.{◌≡◌, ◌≢◌, ◌⊎◌, ℕ, ◌+◌, ◌<◌, ◌≤◌, ◌==◌, Bool, true, false, ◌&&◌, List, [], ◌∷◌, length, get_or, Result, Some, None, Ok, sym, refl, ap, subst, ◌∙◌, inl, inr, ⊎_elim, arith}
use Rattle.std.specs.List.{All}
use Rattle.std.proofs.lemmas.List.{get_or-set_other}
use Rattle.std.proofs.lemmas.List.Elements.{All-head, All-tail}
use Rattle.std.proofs.lemmas.Bool.{cases_lt}
use Rattle.std.proofs.lemmas.Bool.Decides.{nat_tests}
use Rattle.link_net.specs.Neighbours.{Neighbours}
use Rattle.rounds_plan.specs.Plans.{PlanView}
use Rattle.unison_world.specs.declared.step.Step.{Step}
use Rattle.unison_world.specs.declared.step.Step.TheVariants.{Read, Write}
use Rattle.unison_world.specs.declared.step.Answer.TheVariants.{Taken, Moved}
use Rattle.unison_world.specs.Counting.{Counts, moves_of, at_start, answer_of, change, after, run}
use Rattle.unison_world.specs.declared.fault.OpenFault.{OpenFault}
use Rattle.unison_world.specs.Opening.{opening_of}
use Rattle.unison_world.specs.View.{WorldView, opened}
use Rattle.unison_world.proofs.Steps.{moves-at_start}
use Rattle.unison_trace.specs.Histories.{is_change, run_of}
use Rattle.unison_trace.proofs.Leading.{late}
use Rattle.run_schedule.specs.Lists.{IsStepList, GoesToStop, node_of}
use Rattle.run_schedule.specs.Leading.{HasLed, LeadsNode, StaysAhead}
use Rattle.run_schedule.specs.Starving.{StarvesNode}
use Rattle.run_schedule.specs.Walks.{WalkView, IsWalk, IsSound, AtRest, IsFull, is_other}
use Rattle.run_schedule.proofs.Distances.{held-back}
use Rattle.run_schedule.proofs.Leading.{led-back}
use Rattle.run_schedule.proofs.Resting.{Rests, goes-to_stop, waits-behind}

-- without a still node the open steps are those that change something
rests-all : (w : WalkView) → w.still ≡ None → AtRest w → Rests w.world.plan.network w.world.stop w.world.counts
rests-all w none rest step = rw none at (rest step)

full-changes : (w : WalkView) → w.still ≡ None → IsFull w → (length w.steps ≡ w.limit) × ((step : Step) × (is_change (answer_of w.world.plan.network w.world.stop w.world.counts step) ≡ true))
full-changes w none f = (f.full, (f.more.0, rw none at f.more.1))

pub walk-to_stop : (w : WalkView) → IsWalk w → IsSound w.world → w.still ≡ None → AtRest w ⊎ IsFull w → GoesToStop w.world.plan w.world.stop w.limit w.steps
walk-to_stop w is sound none ends =
    goes-to_stop w.world.plan w.world.stop w.limit w.world.counts w.steps sound.plan (late w.world sound.plan sound.in_step sound.started) sound.shape sound.in_step is.leads is.few
    (⊎_elim (λ r. inl (rests-all w none r)) (λ f. inr (full-changes w none f)) ends)

walk-list : (w : WalkView) → IsWalk w → IsStepList w.world.plan w.world.stop w.limit w.steps
walk-list w is = record { leads = record { arrive = refl; each_changes = is.leads.each_changes }; few = is.few }

pub walk-leads : (w : WalkView) (node : ℕ) → IsWalk w → IsSound w.world → StaysAhead w.world.plan w.world.stop node w.steps → HasLed w.world node ⊎ IsFull w → LeadsNode w.world.plan w.world.stop node w.limit w.steps
walk-leads w node is sound stays ends =
    record {
      list = walk-list w is;
      stays = stays;
      ahead = λ less. ⊎_elim (λ l. ap (λ (c : Counts). moves_of c node) is.leads.arrive ∙ l.stop) (λ f. (let n = f.full in absurd (omega arith))) ends;
      rest = λ less u h. ⊎_elim (λ l. rw is.leads.arrive (led-back w.world node sound l u h)) (λ f. (let n = f.full in absurd (omega arith))) ends;
    }

other-node : (node : ℕ) (step : Step) → is_other (Some node) step ≡ true → node_of step ≢ node
other-node node (Read u j) e = grind (arith, nat_tests)
other-node node (Write u) e = grind (arith, nat_tests)

node-other : (node : ℕ) (step : Step) → node_of step ≢ node → is_other (Some node) step ≡ true
node-other node (Read u j) e = grind (arith, nat_tests)
node-other node (Write u) e = grind (arith, nat_tests)

-- a step leaves the counts of the other nodes
step-stays : (network : Neighbours) (stop node : ℕ) (c : Counts) (step : Step) → node_of step ≢ node → moves_of (after network stop c step) node ≡ moves_of c node
step-stays network stop node c (Read u j) other =
    elim (answer_of network stop c (Read u j)) as (λ a. moves_of (change c (Read u j) a) node ≡ moves_of c node) [ Taken ↦ refl | _ ↦ refl ]
step-stays network stop node c (Write u) other =
    elim (answer_of network stop c (Write u)) as (λ a. moves_of (change c (Write u) a) node ≡ moves_of c node)
    [ Moved ↦ get_or-set_other c.moves u node (moves_of c u + 1) 0 (λ e. other (sym e)) | _ ↦ refl ]

run-stays : (network : Neighbours) (stop node : ℕ) (c : Counts) (steps : List Step) → All (λ s. node_of s ≢ node) steps → moves_of (run network stop c steps) node ≡ moves_of c node
run-stays network stop node c [] h = refl
run-stays network stop node c (s ∷ steps) h =
    run-stays network stop node (after network stop c s) steps (All-tail (λ s. node_of s ≢ node) s steps h)
    ∙ step-stays network stop node c s (All-head (λ s. node_of s ≢ node) s steps h)

and-then : (a b : Bool) → a && b ≡ false → a ≡ true → b ≡ false
and-then true b e t = e
and-then false b e t = cc

-- at rest the nodes but the still one wait for neighbours
pub walk-starves : (w : WalkView) (node : ℕ) → IsWalk w → IsSound w.world → w.still ≡ Some node → node < length w.world.plan.network → AtRest w ⊎ IsFull w → StarvesNode w.world.plan w.world.stop node w.limit w.steps
walk-starves w node is sound still here ends =
    let plan = w.world.plan in
    let network = plan.network in
    let stop = w.world.stop in
    let counts = w.world.counts in
    let others : All (λ s. node_of s ≢ node) w.steps = λ k d l. other-node node (get_or w.steps k d) (rw still at (is.others k d l)) in
    let stays : moves_of (run_of plan stop w.steps) node ≡ plan.start = run-stays network stop node (at_start network plan.start) w.steps others ∙ moves-at_start network plan.start node here in
    let arrive = is.leads.arrive in
    let same : moves_of counts node ≡ plan.start = ap (λ (c : Counts). moves_of c node) (sym arrive) ∙ stays in
    record {
      list = walk-list w is;
      others = others;
      stays = stays;
      rest = λ less u h.
          ⊎_elim
          (λ r.
          let quiet : (step : Step) → node_of step ≢ node → is_change (answer_of network stop counts step) ≡ false =
          λ step other. and-then (is_other (Some node) step) _ (rw still at (r step)) (node-other node step other) in
          rw arrive
          (held-back plan stop counts node u sound.plan (late w.world sound.plan sound.in_step sound.started) sound.in_step sound.started same
          (λ v l other below. waits-behind network stop counts v sound.shape l (λ e. omega arith) (λ j. quiet (Read v j) other) (quiet (Write v) other))
          h))
          (λ f. (let n = f.full in absurd (omega arith)))
          ends;
    }

pub some-there : (n : ℕ) (b : Bool) → b ≡ (n == 0) → b ≡ false → 0 < n
some-there n b e f = grind (arith, nat_tests)

-- a world that is opened is the one before any step
pub opened-is : (plan : PlanView) (stop : ℕ) (r : Result WorldView OpenFault) (w : WorldView) → r ≡ Ok w → r ≡ Ok (opened plan stop) → w ≡ opened plan stop
opened-is plan stop r w e f = cc

opens-early : (plan : PlanView) (stop : ℕ) → stop < plan.start → opening_of plan stop ≡ Ok (opened plan stop) → ⊥
opens-early plan stop l e = grind (arith, nat_tests)

-- where a world is opened, the stop is no earlier than the start
pub opens-late : (plan : PlanView) (stop : ℕ) → opening_of plan stop ≡ Ok (opened plan stop) → plan.start ≤ stop
opens-late plan stop e = ⊎_elim (λ l. absurd (opens-early plan stop l e)) (λ l. l) (cases_lt stop plan.start)

-- the same list by an equal plan, stop and limit
pub list-along : (P : PlanView → ℕ → ℕ → Type 0) (p p' : PlanView) (s s' l l' : ℕ) → p ≡ p' → s ≡ s' → l ≡ l' → P p s l → P p' s' l'
list-along P p p' s s' l l' e f g h = subst (P p' s') g (subst (λ x. P p' x l) f (subst (λ x. P x s l) e h))

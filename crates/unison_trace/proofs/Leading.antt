-- Lists of steps that lead to counts: one step more, and how many there are.
use Rattle.std.proofs.Common.{◌≡◌, ℕ, ◌+◌, ◌≤◌, ◌<◌, true, false, List, [], ◌∷◌, ◌++◌, length, length-append, Option, Some, None, refl, sym, ap, ◌∙◌, subst, arith}
use Rattle.std.specs.List.{All, sum_by}
use Rattle.std.proofs.lemmas.List.Elements.{All-push, All-head, All-tail}
use Rattle.std.proofs.lemmas.List.Sums.{sum_by-cons}
use Rattle.link_net.specs.Neighbours.{Neighbours}
use Rattle.rounds_plan.specs.Plans.{PlanView, IsPlan}
use Rattle.link_net.proofs.Simples.{network_simple}
use Rattle.unison_world.specs.declared.step.Step.{Step}
use Rattle.unison_world.specs.declared.step.Step.TheVariants.{Read, Write}
use Rattle.unison_world.specs.declared.step.Answer.{Answer}
use Rattle.unison_world.specs.declared.step.Answer.TheVariants.{Taken, Moved}
use Rattle.unison_world.specs.declared.step.WriteAnswer.{WriteAnswer}
use Rattle.unison_world.specs.declared.step.WriteAnswer.TheVariants as put
use Rattle.unison_world.specs.Counting.{Counts, moves_of, at_start, answer_of, change, after, run, answers, HasShape, InStep}
use Rattle.unison_world.specs.Progress.{steps_done, steps_left, one_if_changed}
use Rattle.unison_world.specs.View.{WorldView, with_counts, answer_in, world_after}
use Rattle.unison_world.specs.Work.{IsPutAnswer, after_put}
use Rattle.unison_world.specs.WorkViews.{WorkView}
use Rattle.unison_world.proofs.Steps.{shape-at_start, in_step-at_start}
use Rattle.unison_world.proofs.Progressing.{counts_changes}
use Rattle.unison_world.proofs.Sweepings.{counts-at_stop, done-left}
use Rattle.unison_world.proofs.Totals.{steps_from_start}
use Rattle.unison_trace.specs.Histories.{LeadTo, Log, IsLogOf, IsHistoryOf, HasRoom, and_step, is_change, is_move}
use Rattle.unison_trace.specs.Traces.{IsNoLonger, IsWholeTrace, needed}

run-append : (network : Neighbours) (stop : ℕ) (c : Counts) (steps : List Step) (step : Step) → run network stop c (steps ++ step ∷ []) ≡ after network stop (run network stop c steps) step
run-append network stop c [] step = refl
run-append network stop c (first ∷ steps) step = run-append network stop (after network stop c first) steps step

answers-append : (network : Neighbours) (stop : ℕ) (c : Counts) (steps : List Step) (step : Step) → answers network stop c (steps ++ step ∷ []) ≡ answers network stop c steps ++ answer_of network stop (run network stop c steps) step ∷ []
answers-append network stop c [] step = refl
answers-append network stop c (first ∷ steps) step = ap (λ ls. answer_of network stop c first ∷ ls) (answers-append network stop (after network stop c first) steps step)

-- a step that changes the counts stands at the end
pub lead-more : (plan : PlanView) (stop : ℕ) (c : Counts) (steps : List Step) (step : Step) → LeadTo plan stop c steps → is_change (answer_of plan.network stop c step) ≡ true → LeadTo plan stop (after plan.network stop c step) (steps ++ step ∷ [])
lead-more plan stop c steps step h e =
    let first = at_start plan.network plan.start in
    let last : is_change (answer_of plan.network stop (run plan.network stop first steps) step) ≡ true = rw h.arrive e in
    let each : All (λ a. is_change a ≡ true) (answers plan.network stop first steps ++ answer_of plan.network stop (run plan.network stop first steps) step ∷ []) =
    All-push (λ a. is_change a ≡ true) (answers plan.network stop first steps) _ h.each_changes last in
    record {
      arrive = run-append plan.network stop first steps step ∙ ap (λ x. after plan.network stop x step) h.arrive;
      each_changes = rw (answers-append plan.network stop first steps step) each;
    }

-- a step that changes the world is stored
pub history-stored : (w : WorldView) (log : Option Log) (step : Step) → IsHistoryOf w log → is_change (answer_in w step) ≡ true → HasRoom log → IsHistoryOf (world_after w step) (and_step log step)
history-stored w None step h e room = tt
history-stored w (Some log) step h e room =
    record {
      leads = lead-more w.plan w.stop w.counts log.steps step h.leads e;
      within = record { stored = omega (arith, length-append log.steps (step ∷ []), room); limit = h.within.limit };
    }

change-same : (c : Counts) (step : Step) (a : Answer) → is_change a ≡ false → change c step a ≡ c
change-same c (Read u j) a = elim a as (λ a. is_change a ≡ false → change c (Read u j) a ≡ c) [ Taken ↦ λ e. cc | _ ↦ λ e. refl ]
change-same c (Write u) a = elim a as (λ a. is_change a ≡ false → change c (Write u) a ≡ c) [ Moved ↦ λ e. cc | _ ↦ λ e. refl ]

-- a step that changes nothing leaves the world
pub world-same : (w : WorldView) (step : Step) → is_change (answer_in w step) ≡ false → world_after w step ≡ w
world-same w step e = ap (with_counts w) (change-same w.counts step (answer_in w step) e)

-- a result that moves its node is a write that moves, and so it is stored
pub history-put : (w v : WorldView) (log : Option Log) (d : WorkView) (a : WriteAnswer) → IsHistoryOf w log → IsPutAnswer w d a → is_move a ≡ true → v ≡ after_put w d a → HasRoom log → IsHistoryOf v (and_step log (Write d.node))
history-put w v log d put.Moved h answered e leaves room =
    let changed : is_change (answer_in w (Write d.node)) ≡ true = ap is_change answered.0 in
    subst (λ x. IsHistoryOf x (and_step log (Write d.node))) (sym leaves) (history-stored w log (Write d.node) h changed room)
history-put w v log d put.Stale h answered e leaves room = cc
history-put w v log d put.NotReady h answered e leaves room = cc
history-put w v log d put.Stopped h answered e leaves room = cc
history-put w v log d put.NoNode h answered e leaves room = cc

length-answers : (network : Neighbours) (stop : ℕ) (c : Counts) (steps : List Step) → length (answers network stop c steps) ≡ length steps
length-answers network stop c [] = refl
length-answers network stop c (step ∷ steps) = (let r = length-answers network stop (after network stop c step) steps in omega arith)

one-change : (a : Answer) → is_change a ≡ true → one_if_changed a ≡ 1
one-change a = elim a as (λ a. is_change a ≡ true → one_if_changed a ≡ 1) [ Taken ↦ λ e. refl | Moved ↦ λ e. refl | _ ↦ λ e. cc ]

all-count : (xs : List Answer) → All (λ a. is_change a ≡ true) xs → sum_by one_if_changed xs ≡ length xs
all-count [] h = refl
all-count (a ∷ xs) h =
    let r = all-count xs (All-tail (λ a. is_change a ≡ true) a xs h) in
    let one = one-change a (All-head (λ a. is_change a ≡ true) a xs h) in
    let s = sum_by-cons one_if_changed a xs in
    omega arith

-- the steps so far and what is left are as many as it takes
pub length-lead : (plan : PlanView) (stop : ℕ) (c : Counts) (steps : List Step) → IsPlan plan → plan.start ≤ stop → HasShape plan.network c → InStep plan.network stop c → LeadTo plan stop c steps → length steps + steps_left plan.network stop c ≡ needed plan stop
length-lead plan stop c steps is late shape in_step h =
    let network = plan.network in
    let first = at_start network plan.start in
    let counted = counts_changes network stop first steps (shape-at_start network plan.start) in
    let each = all-count (answers network stop first steps) h.each_changes in
    let many = length-answers network stop first steps in
    let arrived = ap (steps_done network) h.arrive in
    let here = done-left network stop c shape in_step in
    let whole = done-left network stop first (shape-at_start network plan.start) (in_step-at_start network plan.start stop (network_simple network is.network) late) in
    let all = steps_from_start network plan.start stop in
    omega arith

-- there are no more steps than it takes
pub no-longer : (w : WorldView) (log : Option Log) → IsPlan w.plan → w.plan.start ≤ w.stop → HasShape w.plan.network w.counts → InStep w.plan.network w.stop w.counts → IsHistoryOf w log → IsNoLonger w log
no-longer w None is late shape in_step h = tt
no-longer w (Some log) is late shape in_step h = (let e = length-lead w.plan w.stop w.counts log.steps is late shape in_step h.leads in omega arith)

-- where every node stands at the stop, the steps are a whole trace
pub whole-trace : (plan : PlanView) (stop : ℕ) (c : Counts) (steps : List Step) → IsPlan plan → plan.start ≤ stop → HasShape plan.network c → InStep plan.network stop c → ((u : ℕ) → u < length plan.network → moves_of c u ≡ stop) → LeadTo plan stop c steps → IsWholeTrace plan stop steps
whole-trace plan stop c steps is late shape in_step at_stop h =
    let network = plan.network in
    let last : c ≡ at_start network stop = counts-at_stop network stop c shape in_step at_stop in
    let e = length-lead plan stop c steps is late shape in_step h in
    let here = done-left network stop c shape in_step in
    let there = ap (steps_done network) last in
    record {
      leads = subst (λ x. LeadTo plan stop x steps) last h;
      count = omega arith;
    }

-- the start of a world is no later than its stop
pub late : (w : WorldView) → IsPlan w.plan → InStep w.plan.network w.stop w.counts → ((u : ℕ) → u < length w.plan.network → w.plan.start ≤ moves_of w.counts u) → w.plan.start ≤ w.stop
late w is in_step started =
    let some = is.network.some in
    let begun = started 0 (omega arith) in
    let within = in_step.within 0 in
    omega arith

-- the stored steps of a world whose nodes all stand at the stop are a whole trace of its plan and its stop
pub finished-trace : (w : WorldView) (plan : PlanView) (stop : ℕ) (logged : Option Log) (log : Log) (steps : List Step) → IsPlan w.plan → w.plan.start ≤ w.stop → HasShape w.plan.network w.counts → InStep w.plan.network w.stop w.counts
    → (w.plan ≡ plan) × (w.stop ≡ stop) → ((u : ℕ) → u < length w.plan.network → moves_of w.counts u ≡ w.stop) → IsHistoryOf w logged → logged ≡ Some log → steps ≡ log.steps → IsWholeTrace plan stop steps
finished-trace w plan stop logged log steps is begun shape in_step same at_stop h is_log is_steps =
    let kept : IsLogOf w log = subst (IsHistoryOf w) is_log h in
    let whole : IsWholeTrace w.plan w.stop log.steps = whole-trace w.plan w.stop w.counts log.steps is begun shape in_step at_stop kept.leads in
    subst (IsWholeTrace plan stop) (sym is_steps) (subst (λ p. IsWholeTrace p stop log.steps) same.0 (subst (λ t. IsWholeTrace w.plan t log.steps) same.1 whole))

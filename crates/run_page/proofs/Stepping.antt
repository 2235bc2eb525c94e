-- The data of steps that were made on a world.
use Rattle.std.proofs.Common.{◌≡◌, ◌∙◌, ℕ, List, Option, ap, map, max}
use Rattle.std.specs.List.{fold}
use Rattle.rounds_plan.specs.Plans.{PlanView}
use Rattle.run_watch.specs.Spans.{SpanView, rounds_in}
use Rattle.rule_check.specs.declared.state.State.{State}
use Rattle.serde_json.specs.Data.{Data, object, no_members}
use Rattle.run_naive.specs.Writing.{all_written, last_count}
use Rattle.unison_trace.specs.Histories.{answers_of, run_of}
use Rattle.unison_world.specs.declared.step.Step.{Step}
use Rattle.unison_world.specs.Counting.{Counts, answers, at_start, run}
use Rattle.unison_world.specs.View.{WorldView, opened, with_counts}
use Rattle.run_page.specs.declared.look.Look.{Look}
use Rattle.run_page.specs.Pages.{code_of, naive_page, reached, reached_naively, stepped, stepped_naively, steps_page}

-- the rounds that a world's nodes have reached
abbrev pub span_of : WorldView → SpanView
span_of w = record { first = w.plan.start; last = fold max w.plan.start w.counts.moves; every = 1 }

-- those, and the rounds up to another count
abbrev pub span_up_to : WorldView → ℕ → SpanView
span_up_to w last = record { first = w.plan.start; last = max (span_of w).last last; every = 1 }

module _ (w : WorldView) (steps : List Step) (begun : w ≡ opened w.plan w.stop) where
  begins : w.counts ≡ at_start w.plan.network w.plan.start
  begins = ap (λ (x : WorldView). x.counts) begun

  module _ (new : WorldView) (made : new ≡ with_counts w (run w.plan.network w.stop w.counts steps)) where
    pub same_plan : (plan : PlanView) → plan ≡ new.plan → plan ≡ w.plan
    same_plan plan is = is ∙ ap (λ (x : WorldView). x.plan) made

    reaches : (span : SpanView) → span ≡ span_of new → span ≡ reached w.plan w.stop steps
    reaches span is =
        is ∙ ap span_of made
        ∙ ap (λ (c : Counts). span_of (with_counts w (run w.plan.network w.stop c steps))) begins

    reaches_naively : (span : SpanView) (last : ℕ) → span ≡ span_up_to new last → last ≡ last_count w.plan w.stop steps → span ≡ reached_naively w.plan w.stop steps
    reaches_naively span last is count =
        is ∙ ap (λ (x : WorldView). span_up_to x last) made
        ∙ ap (λ (c : Counts). span_up_to (with_counts w (run w.plan.network w.stop c steps)) last) begins
        ∙ ap (span_up_to (with_counts w (run_of w.plan w.stop steps))) count

    -- with the answers that the world gave
    answered : (page : PlanView → ℕ → List ℕ → List ℕ → Data) (plan : PlanView) (stop : ℕ) (rounds all : List ℕ) (d : Data) → plan ≡ new.plan → stop ≡ new.stop → rounds ≡ all
        → d ≡ page plan stop (map code_of (answers w.plan.network w.stop w.counts steps)) rounds → d ≡ page w.plan w.stop (map code_of (answers_of w.plan w.stop steps)) all
    answered page plan stop rounds all d p s r e =
        let told = map code_of (answers w.plan.network w.stop w.counts steps) in
        e
        ∙ ap (λ (x : PlanView). page x stop told rounds) (same_plan plan p)
        ∙ ap (λ (x : ℕ). page w.plan x told rounds) (s ∙ ap (λ (x : WorldView). x.stop) made)
        ∙ ap (λ (c : Counts). page w.plan w.stop (map code_of (answers w.plan.network w.stop c steps)) rounds) begins
        ∙ ap (page w.plan w.stop (map code_of (answers_of w.plan w.stop steps))) r

    -- and the rounds that its nodes have reached
    pub stepped_is : (look : Look) (plan : PlanView) (stop : ℕ) (span : SpanView) (d : Data) → plan ≡ new.plan → stop ≡ new.stop → span ≡ span_of new
        → d ≡ object (stepped plan stop steps look (map code_of (answers w.plan.network w.stop w.counts steps)) (rounds_in span) no_members) → d ≡ steps_page w.plan w.stop steps look
    unfolding steps_page
    stepped_is look plan stop span d p s r e =
        answered (λ x t told rounds. object (stepped x t steps look told rounds no_members)) plan stop (rounds_in span) (rounds_in (reached w.plan w.stop steps)) d p s (ap rounds_in (reaches span r)) e

    -- and those that nodes have reached that do not wait, with what these wrote
    pub naive_is : (look : Look) (plan first : PlanView) (stop until : ℕ) (span : SpanView) (last : ℕ) (states : List (Option State)) (d : Data) → plan ≡ new.plan → stop ≡ new.stop
        → first ≡ w.plan → until ≡ w.stop → span ≡ span_up_to new last → last ≡ last_count first until steps → states ≡ all_written first until steps
        → d ≡ stepped_naively plan stop steps look (map code_of (answers w.plan.network w.stop w.counts steps)) (rounds_in span) states → d ≡ naive_page w.plan w.stop steps look
    unfolding naive_page
    naive_is look plan first stop until span last states d p s f u r count wrote e =
        let counted : last ≡ last_count w.plan w.stop steps = count ∙ ap (λ (x : PlanView). last_count x until steps) f ∙ ap (λ (x : ℕ). last_count w.plan x steps) u in
        let all : states ≡ all_written w.plan w.stop steps = wrote ∙ ap (λ (x : PlanView). all_written x until steps) f ∙ ap (λ (x : ℕ). all_written w.plan x steps) u in
        answered (λ x t told rounds. stepped_naively x t steps look told rounds states) plan stop (rounds_in span) (rounds_in (reached_naively w.plan w.stop steps)) d p s
        (ap rounds_in (reaches_naively span last r counted)) e
        ∙ ap (stepped_naively w.plan w.stop steps look (map code_of (answers_of w.plan w.stop steps)) (rounds_in (reached_naively w.plan w.stop steps))) all

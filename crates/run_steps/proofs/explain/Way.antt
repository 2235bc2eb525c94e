-- Steps told one by one.
use Rattle.std.proofs.Common.{◌≡◌, ◌∙◌, ℕ, ◌+◌, max, nat_lt, Bool, true, false, if◌then◌else◌, List, [], ◌∷◌, ◌++◌, Option, Ok, Err, sym, ap, append_assoc}
use Rattle.std.specs.List.{fold}
use Rattle.link_net.specs.Neighbours.{Neighbours}
use Rattle.rounds_plan.specs.Configs.{most_rounds}
use Rattle.rounds_plan.specs.Plans.{PlanView}
use Rattle.unison_world.specs.declared.step.Step.{Step}
use Rattle.unison_world.specs.declared.fault.OpenFault.{OpenFault}
use Rattle.unison_world.specs.declared.fault.OpenFault.TheVariants.{StopTooLarge, StopBelowStart}
use Rattle.unison_world.specs.Counting.{Counts, at_start, answer_of, after, run, answers}
use Rattle.unison_world.specs.Opening.{opening_of}
use Rattle.unison_world.specs.View.{WorldView, opened, world_after}
use Rattle.run_steps.specs.declared.explain.answered.Answered.{Answered}
use Rattle.run_steps.specs.declared.explain.show.Show.{Show}
use Rattle.run_steps.specs.explain.Differences.{difference_after, differences_after, greatest_difference}
use Rattle.run_steps.specs.explain.Summaries.{with_answer, answered_in, summary_lines}
use Rattle.run_steps.specs.explain.Telling.{step_line, counts_part, step_lines, told_text}

module _ (names : Option (List (List ℕ))) (show : Show) (plan : PlanView) (stop : ℕ) (c : Counts) (step : Step) (left rest : List Step) (is : left ≡ step ∷ rest) where
  -- the line of the next step, and the counts after it
  pub lines-next : (number : ℕ) (out mid new whole : List ℕ) → mid ≡ out ++ step_line names show plan stop number c step → new ≡ mid ++ counts_part show.counts (after plan.network stop c step)
      → out ++ step_lines names show plan stop number c left ≡ whole → new ++ step_lines names show plan stop (number + 1) (after plan.network stop c step) rest ≡ whole
  lines-next number out mid new whole e f h =
      let line = step_line names show plan stop number c step in
      let part = counts_part show.counts (after plan.network stop c step) in
      let more = step_lines names show plan stop (number + 1) (after plan.network stop c step) rest in
      ap (λ t. t ++ more) f ∙ append_assoc mid part more ∙ ap (λ t. t ++ (part ++ more)) e ∙ append_assoc out line (part ++ more)
      ∙ sym (ap (λ ss. out ++ step_lines names show plan stop number c ss) is) ∙ h

module _ (network : Neighbours) (stop : ℕ) (c : Counts) (step : Step) (left rest : List Step) (is : left ≡ step ∷ rest) where
  pub run-next : (whole : Counts) → run network stop c left ≡ whole → run network stop (after network stop c step) rest ≡ whole
  run-next whole h = sym (ap (run network stop c) is) ∙ h

  pub answered-next : (a b whole : Answered) → b ≡ with_answer a (answer_of network stop c step) → fold with_answer a (answers network stop c left) ≡ whole
      → fold with_answer b (answers network stop (after network stop c step) rest) ≡ whole
  answered-next a b whole e h =
      ap (λ x. fold with_answer x (answers network stop (after network stop c step) rest)) e ∙ sym (ap (λ ss. fold with_answer a (answers network stop c ss)) is) ∙ h

  pub difference-next : (a b whole : ℕ) → b ≡ max a (difference_after network (after network stop c step) step (answer_of network stop c step)) → fold max a (differences_after network stop c left) ≡ whole
      → fold max b (differences_after network stop (after network stop c step) rest) ≡ whole
  difference-next a b whole e h =
      ap (λ x. fold max x (differences_after network stop (after network stop c step) rest)) e ∙ sym (ap (λ ss. fold max a (differences_after network stop c ss)) is) ∙ h

-- the world after a step of a world that has the plan and the stop of another
pub step-made : (first w new : WorldView) (step : Step) → w.plan ≡ first.plan → w.stop ≡ first.stop → new ≡ world_after w step
    → (new.plan ≡ first.plan) × (new.stop ≡ first.stop) × (new.counts ≡ after first.plan.network first.stop w.counts step)
step-made first w new step plan stop made = (
  ap (λ x. x.plan) made ∙ plan,
  ap (λ x. x.stop) made ∙ stop,
  ap (λ x. x.counts) made ∙ ap (λ p. after p.network w.stop w.counts step) plan ∙ ap (λ t. after first.plan.network t w.counts step) stop,
)

-- the lines and the summary are the whole
pub told_whole : (names : Option (List (List ℕ))) (show : Show) (plan : PlanView) (stop : ℕ) (steps : List Step) (first last : Counts) (answered : Answered) (difference : ℕ) (out mid new : List ℕ)
    → first ≡ at_start plan.network plan.start → out ≡ [] → mid ≡ out ++ step_lines names show plan stop 1 first steps → last ≡ run plan.network stop first steps
    → answered ≡ answered_in (answers plan.network stop first steps) → difference ≡ greatest_difference plan.network stop first steps → new ≡ mid ++ summary_lines answered last difference
    → new ≡ told_text names show plan stop steps
told_whole names show plan stop steps first last answered difference out mid new begun none lines made tally far summary =
    let network = plan.network in
    let told = λ (c : Counts). step_lines names show plan stop 1 c steps in
    summary
    ∙ ap (λ t. t ++ summary_lines answered last difference) (lines ∙ ap (λ t. t ++ told first) none)
    ∙ ap (λ a. told first ++ summary_lines a last difference) tally
    ∙ ap (λ l. told first ++ summary_lines (answered_in (answers network stop first steps)) l difference) made
    ∙ ap (λ d. told first ++ summary_lines (answered_in (answers network stop first steps)) (run network stop first steps) d) far
    ∙ ap (λ f. told f ++ summary_lines (answered_in (answers network stop f steps)) (run network stop f steps) (greatest_difference network stop f steps)) begun

opens_by : (a b : Bool) (e f : OpenFault) (v w : WorldView) → (if a then Err e else if b then Err f else Ok v) ≡ Ok w → v ≡ w
opens_by true b e f v w h = cc
opens_by false true e f v w h = cc
opens_by false false e f v w h = cc

-- a world that is opened
pub opens_as : (plan : PlanView) (stop : ℕ) (w : WorldView) → opening_of plan stop ≡ Ok w → opened plan stop ≡ w
opens_as plan stop w h = opens_by (nat_lt most_rounds stop) (nat_lt stop plan.start) StopTooLarge StopBelowStart (opened plan stop) w h

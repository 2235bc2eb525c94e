-- Stops that no node reaches tell the same.
use Rattle.std.proofs.Common.{◌≡◌, ◌∙◌, ℕ, ◌+◌, ◌<◌, ◌≤◌, ◌==◌, true, false, nat_le, codes, if◌then◌else◌, List, [], ◌∷◌, ◌++◌, length, Option, ⊎_elim, refl, ap, arith}
use Rattle.std.proofs.lemmas.Bool.{cases_lt}
use Rattle.std.proofs.lemmas.Bool.Decides.{nat_tests}
use Rattle.std.specs.Fmt.{decimal}
use Rattle.link_net.specs.Neighbours.{Neighbours}
use Rattle.rounds_plan.specs.Plans.{PlanView}
use Rattle.unison_world.specs.declared.step.Step.{Step}
use Rattle.unison_world.specs.declared.step.Step.TheVariants.{Read, Write}
use Rattle.unison_world.specs.declared.step.Answer.{Answer}
use Rattle.unison_world.specs.declared.step.Answer.TheVariants.{Taken, Moved}
use Rattle.unison_world.specs.Counting.{Counts, moves_of, at_start, answer_of, change, after, run, answers, HasShape}
use Rattle.unison_world.proofs.Steps.{answer-moved, moves-at_start, moves-moved, shape-after, shape-at_start}
use Rattle.run_steps.specs.declared.explain.show.Show.{Show}
use Rattle.run_steps.specs.explain.Differences.{difference_after, differences_after, greatest_of}
use Rattle.run_steps.specs.explain.Sentences.{read_sentence, write_sentence}
use Rattle.run_steps.specs.explain.Summaries.{answered_in, summary_lines}
use Rattle.run_steps.specs.explain.Telling.{counts_part, step_line, step_lines, step_words, FarStopsTellTheSame}
use Rattle.run_steps.specs.explain.Words.{spelled, answer_words}

-- no node has moved more often
abbrev AtMost : Neighbours → ℕ → Counts → Type 0
AtMost network m c = (u : ℕ) → u < length network → moves_of c u ≤ m

-- a step moves a node once at most
most-after : (network : Neighbours) (stop : ℕ) (c : Counts) (step : Step) (m : ℕ) → HasShape network c → AtMost network m c → AtMost network (m + 1) (after network stop c step)
most-after network stop c (Read u j) m shape h v less =
    let kept : (after network stop c (Read u j)).moves ≡ c.moves = elim (answer_of network stop c (Read u j)) as (λ a. (change c (Read u j) a).moves ≡ c.moves) [ Taken ↦ refl | _ ↦ refl ] in
    let most = h v less in
    let same = ap (λ ms. moves_of (record { moves = ms; marks = c.marks }) v) kept in
    omega arith
most-after network stop c (Write u) m shape h v less =
    let most = h v less in
    let cases : (a : Answer) → (a ≡ Moved → u < length network) → moves_of (change c (Write u) a) v ≤ m + 1 =
    λ a. elim a as (λ a. (a ≡ Moved → u < length network) → moves_of (change c (Write u) a) v ≤ m + 1) [
      | Moved ↦ λ f. ⊎_elim (λ x. (let e = x.1 in omega arith)) (λ x. (let e = x.1 in omega arith)) (moves-moved c u v (let inside = f refl in omega (arith, shape.moves)))
      | _ ↦ λ _. omega arith
    ]
    in cases (answer_of network stop c (Write u)) (λ e. (answer-moved network stop c u e).0)

-- by counts below both stops a step has one answer
same-answer : (network : Neighbours) (s t : ℕ) (c : Counts) (step : Step) (m : ℕ) → AtMost network m c → m < s → m < t → answer_of network s c step ≡ answer_of network t c step
same-answer network s t c (Read u j) m h a b =
    ⊎_elim
    (λ less. (let most = h u less in let x : (moves_of c u == s) ≡ false = grind (arith, nat_tests) in let y : (moves_of c u == t) ≡ false = grind (arith, nat_tests) in rw (x, y) refl))
    (λ past. (let z : nat_le (length network) u ≡ true = grind (arith, nat_tests) in rw z refl))
    (cases_lt u (length network))
same-answer network s t c (Write u) m h a b =
    ⊎_elim
    (λ less. (let most = h u less in let x : (moves_of c u == s) ≡ false = grind (arith, nat_tests) in let y : (moves_of c u == t) ≡ false = grind (arith, nat_tests) in rw (x, y) refl))
    (λ past. (let z : nat_le (length network) u ≡ true = grind (arith, nat_tests) in rw z refl))
    (cases_lt u (length network))

module _ (names : Option (List (List ℕ))) (show : Show) (plan : PlanView) (s t : ℕ) where
  -- one answer, one text
  same-words : (c : Counts) (step : Step) → answer_of plan.network s c step ≡ answer_of plan.network t c step → step_words names show plan s c step ≡ step_words names show plan t c step
  same-words c (Read u j) e =
      ap (λ a. if show.slots then spelled (Read u j) ++ (codes "  " ++ answer_words plan.network c (Read u j) a) else read_sentence names plan c u j a) e
  same-words c (Write u) e =
      ap (λ a. if show.slots then spelled (Write u) ++ (codes "  " ++ answer_words plan.network c (Write u) a) else write_sentence names plan (change c (Write u) a) u a) e

  same-lines : (steps : List Step) (number : ℕ) (c : Counts) (m : ℕ) → HasShape plan.network c → AtMost plan.network m c → m + length steps ≤ s → m + length steps ≤ t
      → step_lines names show plan s number c steps ≡ step_lines names show plan t number c steps
  same-lines [] number c m shape h a b = refl
  same-lines (step ∷ steps) number c m shape h a b =
      let e = same-answer plan.network s t c step m h (omega arith) (omega arith) in
      let next = after plan.network s c step in
      let more = same-lines steps (number + 1) next (m + 1) (shape-after plan.network s c step shape) (most-after plan.network s c step m shape h) (omega arith) (omega arith) in
      ap (λ w. (decimal number ++ (codes "  " ++ (w ++ 10 ∷ []))) ++ (counts_part show.counts next ++ step_lines names show plan s (number + 1) next steps)) (same-words c step e)
      ∙ ap (λ l. step_line names show plan t number c step ++ (counts_part show.counts next ++ l)) more
      ∙ ap (λ a. step_line names show plan t number c step ++ (counts_part show.counts (change c step a) ++ step_lines names show plan t (number + 1) (change c step a) steps)) e

module _ (network : Neighbours) (s t : ℕ) where
  same-answers : (steps : List Step) (c : Counts) (m : ℕ) → HasShape network c → AtMost network m c → m + length steps ≤ s → m + length steps ≤ t → answers network s c steps ≡ answers network t c steps
  same-answers [] c m shape h a b = refl
  same-answers (step ∷ steps) c m shape h a b =
      let e = same-answer network s t c step m h (omega arith) (omega arith) in
      let more = same-answers steps (after network s c step) (m + 1) (shape-after network s c step shape) (most-after network s c step m shape h) (omega arith) (omega arith) in
      ap (λ l. answer_of network s c step ∷ l) more ∙ ap (λ a. a ∷ answers network t (change c step a) steps) e

  same-run : (steps : List Step) (c : Counts) (m : ℕ) → HasShape network c → AtMost network m c → m + length steps ≤ s → m + length steps ≤ t → run network s c steps ≡ run network t c steps
  same-run [] c m shape h a b = refl
  same-run (step ∷ steps) c m shape h a b =
      let e = same-answer network s t c step m h (omega arith) (omega arith) in
      let more = same-run steps (after network s c step) (m + 1) (shape-after network s c step shape) (most-after network s c step m shape h) (omega arith) (omega arith) in
      more ∙ ap (λ a. run network t (change c step a) steps) e

  same-differences : (steps : List Step) (c : Counts) (m : ℕ) → HasShape network c → AtMost network m c → m + length steps ≤ s → m + length steps ≤ t → differences_after network s c steps ≡ differences_after network t c steps
  same-differences [] c m shape h a b = refl
  same-differences (step ∷ steps) c m shape h a b =
      let e = same-answer network s t c step m h (omega arith) (omega arith) in
      let next = after network s c step in
      let more = same-differences steps next (m + 1) (shape-after network s c step shape) (most-after network s c step m shape h) (omega arith) (omega arith) in
      ap (λ l. difference_after network next step (answer_of network s c step) ∷ l) more ∙ ap (λ a. difference_after network (change c step a) step a ∷ differences_after network t (change c step a) steps) e

pub far_stops_tell_the_same : FarStopsTellTheSame
far_stops_tell_the_same names show plan s t steps a b =
    let network = plan.network in
    let c = at_start network plan.start in
    let shape = shape-at_start network plan.start in
    let most : AtMost network plan.start c = λ u less. (let e = moves-at_start network plan.start u less in omega arith) in
    let lines = step_lines names show plan t 1 c steps in
    let tally = answered_in (answers network t c steps) in
    ap (λ l. l ++ summary_lines (answered_in (answers network s c steps)) (run network s c steps) (greatest_of (differences_after network s c steps))) (same-lines names show plan s t steps 1 c plan.start shape most a b)
    ∙ ap (λ l. lines ++ summary_lines (answered_in l) (run network s c steps) (greatest_of (differences_after network s c steps))) (same-answers network s t steps c plan.start shape most a b)
    ∙ ap (λ k. lines ++ summary_lines tally k (greatest_of (differences_after network s c steps))) (same-run network s t steps c plan.start shape most a b)
    ∙ ap (λ d. lines ++ summary_lines tally (run network t c steps) (greatest_of d)) (same-differences network s t steps c plan.start shape most a b)

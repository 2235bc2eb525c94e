-- A list of steps, told.
use Rattle.std.specs.Prelude.{◌≡◌, ℕ, ◌+◌, ◌≤◌, Bool, true, false, codes, List, [], ◌∷◌, ◌++◌, length, Option, Ok, Err, if◌then◌else◌}
use Rattle.std.specs.Fmt.{decimal}
use Rattle.std.specs.List.{flat_map}
use Rattle.link_net.specs.Neighbours.{Neighbours}
use Rattle.rounds_plan.specs.Plans.{PlanView}
use Rattle.unison_world.specs.declared.step.Step.{Step}
use Rattle.unison_world.specs.declared.fault.OpenFault.{OpenFault}
use Rattle.unison_world.specs.declared.fault.OpenFault.TheVariants.{Memory}
use Rattle.unison_world.specs.Counting.{Counts, at_start, answer_of, after}
use Rattle.unison_world.specs.Opening.{opening_of}
use Rattle.unison_world.specs.View.{opened}
use Rattle.run_steps.specs.declared.explain.show.Show.{Show}
use Rattle.run_steps.specs.explain.Words.{spelled, answer_words}
use Rattle.run_steps.specs.explain.Sentences.{sentence}
use Rattle.run_steps.specs.explain.Summaries.{summary_text}

-- a step as a schedule spells it, and the answer in words by the counts before it, with two spaces between
abbrev pub slot_words : Neighbours → ℕ → Counts → Step → List ℕ
slot_words network stop c step = spelled step ++ (codes "  " ++ answer_words network c step (answer_of network stop c step))

-- what a step does: in slots and counts where they are asked for, else in a sentence with values
abbrev pub step_words : Option (List (List ℕ)) → Show → PlanView → ℕ → Counts → Step → List ℕ
step_words names show plan stop c step = if show.slots then slot_words plan.network stop c step else sentence names plan stop c step

-- the line of a step: its number, and what it does, with two spaces between
abbrev pub step_line : Option (List (List ℕ)) → Show → PlanView → ℕ → ℕ → Counts → Step → List ℕ
step_line names show plan stop number c step = decimal number ++ (codes "  " ++ (step_words names show plan stop c step ++ 10 ∷ []))

-- the line of all counts by rising number of the node
abbrev pub counts_line : Counts → List ℕ
counts_line c = codes "  counts" ++ (flat_map (λ m. codes " " ++ decimal m) c.moves ++ 10 ∷ [])

-- that line, where it is asked for
abbrev pub counts_part : Bool → Counts → List ℕ
counts_part true c = counts_line c
counts_part false c = []

-- the line of each step of a list, the first with this number, and behind it the counts after it where they are asked for
abbrev pub step_lines : Option (List (List ℕ)) → Show → PlanView → ℕ → ℕ → Counts → List Step → List ℕ
step_lines names show plan stop number c [] = []
step_lines names show plan stop number c (step ∷ steps) =
    step_line names show plan stop number c step
    ++ (counts_part show.counts (after plan.network stop c step) ++ step_lines names show plan stop (number + 1) (after plan.network stop c step) steps)

-- the lines of the steps from a plan's opening on, counted from 1, and the summary
abbrev pub told_text : Option (List (List ℕ)) → Show → PlanView → ℕ → List Step → List ℕ
told_text names show plan stop steps = step_lines names show plan stop 1 (at_start plan.network plan.start) steps ++ summary_text plan stop steps

-- why nothing is told: there is no such world; running out of memory comes only where there is one
abbrev pub IsTellFault : PlanView → ℕ → OpenFault → Type 0
IsTellFault plan stop Memory = opening_of plan stop ≡ Ok (opened plan stop)
IsTellFault plan stop fault = opening_of plan stop ≡ Err fault

-- any two stops that no node can reach by so many steps tell the same: as if there were none
abbrev pub FarStopsTellTheSame : Type 0
FarStopsTellTheSame =
    (names : Option (List (List ℕ))) (show : Show) (plan : PlanView) (stop other : ℕ) (steps : List Step) → plan.start + length steps ≤ stop → plan.start + length steps ≤ other
    → told_text names show plan stop steps ≡ told_text names show plan other steps

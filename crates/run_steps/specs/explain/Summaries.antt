-- The summary of a list of steps.
use Rattle.std.specs.Prelude.{◌≡◌, ℕ, ◌+◌, codes, List, [], ◌∷◌, ◌++◌, length, fold}
use Rattle.std.specs.Fmt.{decimal}
use Rattle.link_net.specs.Neighbours.{Neighbours}
use Rattle.rounds_plan.specs.Plans.{PlanView}
use Rattle.unison_world.specs.declared.step.Step.{Step}
use Rattle.unison_world.specs.declared.step.Answer.{Answer}
use Rattle.unison_world.specs.declared.step.Answer.TheVariants.{Taken, Behind, Already, Moved, NotReady, Stopped, NoNode, NoSlot}
use Rattle.unison_world.specs.Counting.{Counts, at_start, answers}
use Rattle.unison_trace.specs.Histories.{run_of, answers_of}
use Rattle.run_steps.specs.declared.explain.answered.Answered.{Answered}
use Rattle.run_steps.specs.explain.Differences.{least_of, greatest_of, greatest_difference}

-- no answer at all
abbrev pub none_answered : Answered
none_answered = record { taken = 0; moved = 0; behind = 0; already = 0; not_ready = 0; stopped = 0; no_node = 0; no_slot = 0 }

-- one answer more
abbrev pub with_answer : Answered → Answer → Answered
with_answer a Taken = record a { taken = a.taken + 1 }
with_answer a Moved = record a { moved = a.moved + 1 }
with_answer a Behind = record a { behind = a.behind + 1 }
with_answer a Already = record a { already = a.already + 1 }
with_answer a NotReady = record a { not_ready = a.not_ready + 1 }
with_answer a Stopped = record a { stopped = a.stopped + 1 }
with_answer a NoNode = record a { no_node = a.no_node + 1 }
with_answer a NoSlot = record a { no_slot = a.no_slot + 1 }

-- how often each answer is in a list
abbrev pub answered_in : List Answer → Answered
answered_in answers = fold with_answer none_answered answers

-- how many of the answers refuse their step
abbrev pub refused_in : Answered → ℕ
refused_in a = a.behind + a.already + a.not_ready + a.stopped + a.no_node + a.no_slot

-- how many answers there are
abbrev pub total : Answered → ℕ
total a = a.taken + a.moved + refused_in a

-- each step is counted by one answer
abbrev pub EachIsCounted : Type 0
EachIsCounted = (network : Neighbours) (stop : ℕ) (c : Counts) (steps : List Step) → total (answered_in (answers network stop c steps)) ≡ length steps

-- a line of some words and a number
abbrev pub number_line : List ℕ → ℕ → List ℕ
number_line words number = words ++ (decimal number ++ 10 ∷ [])

-- how many answers refuse their step, and how many of each kind, each on its line
abbrev pub refused_lines : Answered → List ℕ
refused_lines a =
    number_line (codes "refused ") (refused_in a) ++ (number_line (codes "  Behind ") a.behind ++ (number_line (codes "  Already ") a.already
    ++ (number_line (codes "  NotReady ") a.not_ready ++ (number_line (codes "  Stopped ") a.stopped ++ (number_line (codes "  NoNode ") a.no_node ++ number_line (codes "  NoSlot ") a.no_slot)))))

-- how many answers there are, how many of them let a node read or move, and how many refuse their step
abbrev pub answered_lines : Answered → List ℕ
answered_lines a = number_line (codes "steps ") (total a) ++ (number_line (codes "reads ") a.taken ++ (number_line (codes "moves ") a.moved ++ refused_lines a))

-- the least and the greatest of the counts, and the greatest difference on the way
abbrev pub counts_lines : Counts → ℕ → List ℕ
counts_lines c difference =
    number_line (codes "least count ") (least_of c.moves) ++ (number_line (codes "greatest count ") (greatest_of c.moves) ++ number_line (codes "greatest difference ") difference)

-- an empty line, and those lines
abbrev pub summary_lines : Answered → Counts → ℕ → List ℕ
summary_lines a c difference = 10 ∷ [] ++ (answered_lines a ++ counts_lines c difference)

-- the summary, by the answers to the steps from a plan's opening on, the counts after them, and the greatest difference on the way
abbrev pub summary_text : PlanView → ℕ → List Step → List ℕ
summary_text plan stop steps =
    summary_lines (answered_in (answers_of plan stop steps)) (run_of plan stop steps) (greatest_difference plan.network stop (at_start plan.network plan.start) steps)

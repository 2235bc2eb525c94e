-- How many steps have changed the counts, and how many are left until every node stands at a stop.
use Rattle.std.specs.Prelude.{◌≡◌, ℕ, ◌+◌, ◌-◌, ◌*◌, Bool, List, length}
use Rattle.std.specs.List.{sum_by, count_by}
use Rattle.link_net.specs.Neighbours.{Neighbours, degree, numbers_below}
use Rattle.unison_world.specs.declared.step.Step.{Step}
use Rattle.unison_world.specs.declared.step.Answer.{Answer}
use Rattle.unison_world.specs.declared.step.Answer.TheVariants.{Taken, Moved}
use Rattle.unison_world.specs.Counting.{Counts, moves_of, marks_of, at_start, run, answers, HasShape}

-- how many slots are marked
abbrev pub marks_in : List Bool → ℕ
marks_in marks = count_by (λ mark. mark) marks

-- each move of a node takes a read of each of its slots and a write
abbrev pub done_at : Neighbours → Counts → ℕ → ℕ
done_at network c u = moves_of c u * (degree network u + 1) + marks_in (marks_of c u)

-- the steps that lead to these counts from all counts 0 and no slot marked
abbrev pub steps_done : Neighbours → Counts → ℕ
steps_done network c = sum_by (done_at network c) (numbers_below (length network))

-- what a node has left until the stop
abbrev pub left_at : Neighbours → ℕ → Counts → ℕ → ℕ
left_at network stop c u = (stop - moves_of c u) * (degree network u + 1) - marks_in (marks_of c u)

-- what all nodes have left until the stop
abbrev pub steps_left : Neighbours → ℕ → Counts → ℕ
steps_left network stop c = sum_by (left_at network stop c) (numbers_below (length network))

-- one for an answer with which a step changes the counts
abbrev pub one_if_changed : Answer → ℕ
one_if_changed Taken = 1
one_if_changed Moved = 1
one_if_changed a = 0

-- after every list of steps, as many are done more as have changed the counts
abbrev pub CountsChanges : Type 0
CountsChanges =
    (network : Neighbours) (stop : ℕ) (c : Counts) (steps : List Step) → HasShape network c
    → steps_done network (run network stop c steps) ≡ steps_done network c + sum_by one_if_changed (answers network stop c steps)

-- from a start to a stop each round takes two reads a link and a write a node
abbrev pub StepsFromStart : Type 0
StepsFromStart =
    (network : Neighbours) (start stop : ℕ)
    → steps_left network stop (at_start network start) ≡ (stop - start) * (sum_by length network + length network)

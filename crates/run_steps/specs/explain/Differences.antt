-- How far nodes that have moved are from their neighbours.
use Rattle.std.specs.Prelude.{ℕ, ◌≤◌, min, max, List, [], ◌∷◌, map, fold}
use Rattle.std.specs.Int.{abs_diff}
use Rattle.link_net.specs.Neighbours.{Neighbours}
use Rattle.link_net.specs.Simple.{IsSimple}
use Rattle.unison_world.specs.declared.step.Step.{Step}
use Rattle.unison_world.specs.declared.step.Step.TheVariants.{Write}
use Rattle.unison_world.specs.declared.step.Answer.{Answer}
use Rattle.unison_world.specs.declared.step.Answer.TheVariants.{Moved}
use Rattle.unison_world.specs.Counting.{Counts, moves_of, at_start, answer_of, after}
use Rattle.unison_world.specs.Turns.{neighbours_of}

-- the greatest number of a list, 0 where it is empty
abbrev pub greatest_of : List ℕ → ℕ
greatest_of xs = fold max 0 xs

-- the least number of a list, 0 where it is empty
abbrev pub least_of : List ℕ → ℕ
least_of [] = 0
least_of (x ∷ xs) = fold min x xs

-- how far the count of each neighbour of a node is from the node's own
abbrev pub differences : Neighbours → Counts → ℕ → List ℕ
differences network c u = map (λ w. abs_diff (moves_of c u) (moves_of c w)) (neighbours_of network u)

-- the greatest of them where the step has moved a node, by the counts after it, else 0
abbrev pub difference_after : Neighbours → Counts → Step → Answer → ℕ
difference_after network c (Write u) Moved = greatest_of (differences network c u)
difference_after network c step answer = 0

-- that of each step of a list
abbrev pub differences_after : Neighbours → ℕ → Counts → List Step → List ℕ
differences_after network stop c [] = []
differences_after network stop c (step ∷ steps) =
    difference_after network (after network stop c step) step (answer_of network stop c step) ∷ differences_after network stop (after network stop c step) steps

-- the greatest over the whole way
abbrev pub greatest_difference : Neighbours → ℕ → Counts → List Step → ℕ
greatest_difference network stop c steps = greatest_of (differences_after network stop c steps)

-- from the start on it is at most 1, whatever the steps
abbrev pub DifferByOneAtMost : Type 0
DifferByOneAtMost =
    (network : Neighbours) (start stop : ℕ) (steps : List Step) → IsSimple network → start ≤ stop → greatest_difference network stop (at_start network start) steps ≤ 1

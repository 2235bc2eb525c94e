-- Steps and answers in words.
use Rattle.std.specs.Prelude.{◌≡◌, ℕ, ◌+◌, codes, List, [], ◌∷◌, ◌++◌, length}
use Rattle.std.specs.Fmt.{decimal}
use Rattle.link_net.specs.Neighbours.{Neighbours, degree, neighbour}
use Rattle.unison_world.specs.declared.step.Step.{Step}
use Rattle.unison_world.specs.declared.step.Step.TheVariants.{Read, Write}
use Rattle.unison_world.specs.declared.step.Answer.{Answer}
use Rattle.unison_world.specs.declared.step.Answer.TheVariants.{Taken, Behind, Already, Moved, NotReady, Stopped, NoNode, NoSlot}
use Rattle.unison_world.specs.Counting.{Counts, moves_of, marks_of}
use Rattle.unison_world.specs.Progress.{marks_in}
use Rattle.unison_trace.specs.Schedules.{line_of}

-- a step as a schedule spells it, without the end of the line
abbrev pub spelled : Step → List ℕ
spelled (Read node slot) = codes "read " ++ (decimal node ++ (codes " " ++ decimal slot))
spelled (Write node) = codes "write " ++ decimal node

-- with the end of the line it is the line of the schedule
abbrev pub SpelledAsInSchedules : Type 0
SpelledAsInSchedules = (step : Step) → line_of step ≡ spelled step ++ 10 ∷ []

-- a node and how often it has moved
abbrev pub at_count : Counts → ℕ → List ℕ
at_count c u = decimal u ++ (codes " at count " ++ decimal (moves_of c u))

-- the answer to a read of node u at its slot j, by its name and with its reason in these counts; a read has no other answers
abbrev pub read_words : Neighbours → Counts → ℕ → ℕ → Answer → List ℕ
read_words network c u j Taken = codes "Taken: neighbour " ++ at_count c (neighbour network u j)
read_words network c u j Behind = codes "Behind: neighbour " ++ (at_count c (neighbour network u j) ++ (codes ", node " ++ at_count c u))
read_words network c u j Already = codes "Already: neighbour " ++ (decimal (neighbour network u j) ++ codes " was read")
read_words network c u j Stopped = codes "Stopped: node " ++ (decimal u ++ codes " at the stop")
read_words network c u j NoNode = codes "NoNode: nodes are numbered below " ++ decimal (length network)
read_words network c u j NoSlot = codes "NoSlot: slots of node " ++ (decimal u ++ (codes " are numbered below " ++ decimal (degree network u)))
read_words network c u j answer = []

-- the same of a write of node u; where it moves, its count is the one after it
abbrev pub write_words : Neighbours → Counts → ℕ → Answer → List ℕ
write_words network c u Moved = codes "Moved: node " ++ (decimal u ++ (codes " at count " ++ decimal (moves_of c u + 1)))
write_words network c u NotReady =
    codes "NotReady: " ++ (decimal (marks_in (marks_of c u)) ++ (codes " of " ++ (decimal (degree network u) ++ codes " neighbours read")))
write_words network c u Stopped = codes "Stopped: node " ++ (decimal u ++ codes " at the stop")
write_words network c u NoNode = codes "NoNode: nodes are numbered below " ++ decimal (length network)
write_words network c u answer = []

-- the answer to a step, by its name and with its reason in the counts before the step
abbrev pub answer_words : Neighbours → Counts → Step → Answer → List ℕ
answer_words network c (Read u j) answer = read_words network c u j answer
answer_words network c (Write u) answer = write_words network c u answer

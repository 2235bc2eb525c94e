-- Steps in sentences, with the values of registers.
use Rattle.std.specs.Prelude.{◌≡◌, ◌⊎◌, ℕ, ◌+◌, ◌≤◌, codes, Bool, not, List, [], ◌++◌, length, slice_index_or, Option, Some, None}
use Rattle.std.specs.Fmt.{decimal}
use Rattle.std.specs.List.{position_or_len}
use Rattle.rule_check.specs.declared.state.State.{State}
use Rattle.rule_check.specs.Value.{names_of}
use Rattle.link_net.specs.Neighbours.{degree, neighbour}
use Rattle.phase_register.specs.declared.register.Look.{Look}
use Rattle.phase_register.specs.declared.register.Look.TheVariants.{Behind, Level, Ahead}
use Rattle.rounds_plan.specs.Plans.{PlanView}
use Rattle.rounds_plan.specs.Starts.{IsSimplePlan}
use Rattle.rounds_plan.specs.Lockstep.{lockstep}
use Rattle.report_text.specs.Report.{fields_text}
use Rattle.unison_world.specs.declared.step.Step.{Step}
use Rattle.unison_world.specs.declared.step.Step.TheVariants.{Read, Write}
use Rattle.unison_world.specs.declared.step.Answer.{Answer}
use Rattle.unison_world.specs.declared.step.Answer.TheVariants as answer
use Rattle.unison_world.specs.Counting.{Counts, moves_of, marks_of, answer_of, after}
use Rattle.unison_world.specs.Progress.{marks_in}
use Rattle.unison_trace.specs.Histories.{run_of}
use Rattle.run_steps.specs.explain.Registers.{register_of, look_of}

-- what a node is called: its name where names are given, else `node` and its number
abbrev pub called : Option (List (List ℕ)) → ℕ → List ℕ
called None u = codes "node " ++ decimal u
called (Some names) u = slice_index_or names u []

-- what a reader sees of the neighbour that is so called, and what it takes, with the fields of states as reports have them; where the
-- neighbour is ahead, in brackets the state that it holds now
abbrev pub look_words : List (List ℕ) → List ℕ → State → Look → List ℕ
look_words fields who holds (Level s) = codes ", which has moved as often: takes" ++ fields_text fields s.words
look_words fields who holds (Ahead s) =
    codes ", which is one ahead: takes" ++ (fields_text fields s.words ++ (codes ", its previous state (it holds" ++ (fields_text fields holds.words ++ codes ")")))
look_words fields who holds Behind = codes ", which is one behind: waits until " ++ (who ++ codes " has moved")

-- who reads whom
abbrev pub reads_words : Option (List (List ℕ)) → ℕ → ℕ → List ℕ
reads_words names u v = called names u ++ (codes " reads " ++ called names v)

-- the read of a neighbour: who reads whom, and what the reader sees
abbrev pub look_sentence : Option (List (List ℕ)) → PlanView → Counts → ℕ → ℕ → List ℕ
look_sentence names plan c u v =
    reads_words names u v ++ look_words (names_of plan.program) (called names v) (register_of plan c v).current (look_of plan c u v)

-- there is no such node
abbrev pub no_node_words : PlanView → ℕ → List ℕ
no_node_words plan u = codes "there is no node " ++ (decimal u ++ (codes ": nodes are numbered below " ++ decimal (length plan.network)))

-- a read of node u at its slot j, by its answer and the counts before it; a read has no other answers
abbrev pub read_sentence : Option (List (List ℕ)) → PlanView → Counts → ℕ → ℕ → Answer → List ℕ
read_sentence names plan c u j answer.Taken = look_sentence names plan c u (neighbour plan.network u j)
read_sentence names plan c u j answer.Behind = look_sentence names plan c u (neighbour plan.network u j)
read_sentence names plan c u j answer.Already =
    reads_words names u (neighbour plan.network u j) ++ codes ", which it has read already: waits until it has moved itself"
read_sentence names plan c u j answer.Stopped = called names u ++ (codes " does not read: it stands at the stop, round " ++ decimal (moves_of c u))
read_sentence names plan c u j answer.NoNode = no_node_words plan u
read_sentence names plan c u j answer.NoSlot =
    called names u ++ (codes " has no slot " ++ (decimal j ++ (codes ": its slots are numbered below " ++ decimal (degree plan.network u))))
read_sentence names plan c u j answer = []

-- the first slot of a node without a mark, or how many slots it has where each has one
abbrev pub first_unread : Counts → ℕ → ℕ
first_unread c u = position_or_len (λ (mark : Bool). not mark) (marks_of c u)

-- A write of node u, by its answer and the counts after it: where it moves, its state is that of the round to which it has come. Where it
-- waits, the counts are those before it too, and the first neighbour is named that it has not read.
abbrev pub write_sentence : Option (List (List ℕ)) → PlanView → Counts → ℕ → Answer → List ℕ
write_sentence names plan c u answer.Moved =
    called names u ++ (codes " moves:" ++ (fields_text (names_of plan.program) (register_of plan c u).current.words ++ (codes ", its state of round " ++ decimal (moves_of c u))))
write_sentence names plan c u answer.NotReady =
    called names u ++ (codes " does not move: it has read " ++ (decimal (marks_in (marks_of c u)) ++ (codes " of " ++ (decimal (degree plan.network u)
    ++ (codes " neighbours, and waits for " ++ called names (neighbour plan.network u (first_unread c u)))))))
write_sentence names plan c u answer.Stopped = called names u ++ (codes " does not move: it stands at the stop, round " ++ decimal (moves_of c u))
write_sentence names plan c u answer.NoNode = no_node_words plan u
write_sentence names plan c u answer = []

-- the sentence of a step from these counts on
abbrev pub sentence : Option (List (List ℕ)) → PlanView → ℕ → Counts → Step → List ℕ
sentence names plan stop c (Read u j) = read_sentence names plan c u j (answer_of plan.network stop c (Read u j))
sentence names plan stop c (Write u) = write_sentence names plan (after plan.network stop c (Write u)) u (answer_of plan.network stop c (Write u))

-- what a read says that is taken in the reader's round t, where the neighbour has moved as often, and where it has moved once more; either
-- tells the neighbour's lockstep state of round t as the one that is taken
abbrev pub level_sentence : Option (List (List ℕ)) → PlanView → ℕ → ℕ → ℕ → List ℕ
level_sentence names plan t u v =
    reads_words names u v ++ (codes ", which has moved as often: takes" ++ fields_text (names_of plan.program) (lockstep plan t v).words)

abbrev pub ahead_sentence : Option (List (List ℕ)) → PlanView → ℕ → ℕ → ℕ → List ℕ
ahead_sentence names plan t u v =
    reads_words names u v ++ (codes ", which is one ahead: takes" ++ (fields_text (names_of plan.program) (lockstep plan t v).words
    ++ (codes ", its previous state (it holds" ++ (fields_text (names_of plan.program) (lockstep plan (t + 1) v).words ++ codes ")"))))

-- node u says the one of node v where v has moved as often, and the other where it has moved once more; there is no third case
abbrev pub IsSaidOfRound : Option (List (List ℕ)) → PlanView → Counts → ℕ → ℕ → List ℕ → Type 0
IsSaidOfRound names plan c u v text =
    ((moves_of c v ≡ moves_of c u) × (text ≡ level_sentence names plan (moves_of c u) u v))
    ⊎ ((moves_of c v ≡ moves_of c u + 1) × (text ≡ ahead_sentence names plan (moves_of c u) u v))

-- whatever steps were made before, that is what the sentence of a read says that is taken
abbrev pub SaysOwnRound : Type 0
SaysOwnRound =
    (names : Option (List (List ℕ))) (plan : PlanView) (stop : ℕ) (steps : List Step) (u j : ℕ) → IsSimplePlan plan → plan.start ≤ stop
    → answer_of plan.network stop (run_of plan stop steps) (Read u j) ≡ answer.Taken
    → IsSaidOfRound names plan (run_of plan stop steps) u (neighbour plan.network u j) (sentence names plan stop (run_of plan stop steps) (Read u j))

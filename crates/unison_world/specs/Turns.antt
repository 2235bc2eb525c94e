-- Whole turns of a node, and sweeps.
use Rattle.std.specs.Prelude.{ℕ, zero, suc, min, ◌+◌, ◌≤◌, Bool, not, ◌==◌, nat_le, nat_lt, List, [], ◌∷◌, ◌++◌, length, map, if◌then◌else◌, ◌<◌}
use Rattle.std.specs.List.{filter, list_any}
use Rattle.link_net.specs.Neighbours.{Neighbours, IsNetwork, degree, row, numbers_below}
use Rattle.unison_world.specs.declared.step.Step.{Step}
use Rattle.unison_world.specs.declared.step.Step.TheVariants.{Read, Write}
use Rattle.unison_world.specs.declared.step.TurnAnswer.{TurnAnswer}
use Rattle.unison_world.specs.declared.step.TurnAnswer.TheVariants.{Moved, Behind, Stopped, NoNode}
use Rattle.unison_world.specs.Counting.{Counts, moves_of, is_marked, at_start, run}
use Rattle.unison_world.specs.View.{WorldView, with_counts}

-- the neighbours of a node by rising number
abbrev pub neighbours_of : Neighbours → ℕ → List ℕ
neighbours_of network u = map (λ a. a.0) (row network u)

-- some neighbour has moved less often than the node
abbrev pub any_behind : Neighbours → Counts → ℕ → Bool
any_behind network c u = list_any (λ w. nat_lt (moves_of c w) (moves_of c u)) (neighbours_of network u)

-- the answer to a turn: the first case that holds
abbrev pub turn_answer : Neighbours → ℕ → Counts → ℕ → TurnAnswer
turn_answer network stop c u =
    if nat_le (length network) u then NoNode else
    if moves_of c u == stop then Stopped else
    if any_behind network c u then Behind else
    Moved

-- a read of each slot that has no mark, rising, and then a write
abbrev pub turn_steps : Neighbours → Counts → ℕ → List Step
turn_steps network c u = map (λ j. Read u j) (filter (λ j. not (is_marked c u j)) (numbers_below (degree network u))) ++ Write u ∷ []

-- what a turn with this answer changes
abbrev pub turn_change : Neighbours → ℕ → Counts → ℕ → TurnAnswer → Counts
turn_change network stop c u Moved = run network stop c (turn_steps network c u)
turn_change network stop c u a = c

-- the counts after a turn
abbrev pub after_turn : Neighbours → ℕ → Counts → ℕ → Counts
after_turn network stop c u = turn_change network stop c u (turn_answer network stop c u)

-- the counts after a turn of each of these nodes, in order
abbrev pub after_turns : Neighbours → ℕ → Counts → List ℕ → Counts
after_turns network stop c [] = c
after_turns network stop c (u ∷ us) = after_turns network stop (after_turn network stop c u) us

-- one for a turn that moves
abbrev pub one_if_moved : TurnAnswer → ℕ
one_if_moved Moved = 1
one_if_moved a = 0

-- how many of these turns move
abbrev pub moves_in_turns : Neighbours → ℕ → Counts → List ℕ → ℕ
moves_in_turns network stop c [] = 0
moves_in_turns network stop c (u ∷ us) = one_if_moved (turn_answer network stop c u) + moves_in_turns network stop (after_turn network stop c u) us

-- the world after a turn
abbrev pub world_after_turn : WorldView → ℕ → WorldView
world_after_turn w u = with_counts w (after_turn w.plan.network w.stop w.counts u)

-- the world after a sweep: a turn of each node by rising number
abbrev pub world_after_sweep : WorldView → WorldView
world_after_sweep w = with_counts w (after_turns w.plan.network w.stop w.counts (numbers_below (length w.plan.network)))

-- how many nodes move in a sweep
abbrev pub moves_in_sweep : WorldView → ℕ
moves_in_sweep w = moves_in_turns w.plan.network w.stop w.counts (numbers_below (length w.plan.network))

-- every node has moved at least this often
abbrev pub AtLeast : WorldView → ℕ → Type 0
AtLeast w m = (u : ℕ) → u < length w.plan.network → m ≤ moves_of w.counts u

-- the counts after so many sweeps
abbrev pub after_sweeps : Neighbours → ℕ → ℕ → Counts → Counts
after_sweeps network stop zero c = c
after_sweeps network stop (suc s) c = after_turns network stop (after_sweeps network stop s c) (numbers_below (length network))

-- after s sweeps from the start each node has moved at least s times, or stands at the stop
abbrev pub SweepsRise : Type 0
SweepsRise =
    (network : Neighbours) (start stop s u : ℕ) → IsNetwork network → start ≤ stop → u < length network
    → min (start + s) stop ≤ moves_of (after_sweeps network stop s (at_start network start)) u

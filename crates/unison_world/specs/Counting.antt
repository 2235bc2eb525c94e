-- The count machine: how often each node has moved, and which of its slots it has read since.
use Rattle.std.specs.Prelude.{◌≡◌, ℕ, zero, suc, ◌+◌, ◌<◌, ◌≤◌, Bool, true, false, ◌&&◌, List, [], ◌∷◌, length, map, set, slice_index, slice_index_or, ◌==◌, nat_le, nat_lt, if◌then◌else◌}
use Rattle.link_net.specs.Neighbours.{Neighbours, degree, neighbour, IsNetwork}
use Rattle.unison_world.specs.declared.step.Step.{Step}
use Rattle.unison_world.specs.declared.step.Step.TheVariants.{Read, Write}
use Rattle.unison_world.specs.declared.step.Answer.{Answer}
use Rattle.unison_world.specs.declared.step.Answer.TheVariants.{Taken, Behind, Already, Moved, NotReady, Stopped, NoNode, NoSlot}

-- for each node its count, and for each of its slots whether it was read since the last move
pub record Counts : Type 0 where
  pub moves : List ℕ
  pub marks : List (List Bool)

-- the count of a node
abbrev pub moves_of : Counts → ℕ → ℕ
moves_of c u = slice_index c.moves u

-- the marks of a node's slots
abbrev pub marks_of : Counts → ℕ → List Bool
marks_of c u = slice_index_or c.marks u []

-- whether a slot of a node is marked
abbrev pub is_marked : Counts → ℕ → ℕ → Bool
is_marked c u j = slice_index_or (marks_of c u) j false

-- whether the first n slots of a node are marked
abbrev pub all_marked : Counts → ℕ → ℕ → Bool
all_marked c u zero = true
all_marked c u (suc n) = is_marked c u n && all_marked c u n

-- all counts at the start, and no slot marked
abbrev pub at_start : Neighbours → ℕ → Counts
at_start network start = record { moves = map (λ _. start) network; marks = map (λ row. map (λ _. false) row) network }

-- the answer to a step: the first case that holds
abbrev pub answer_of : Neighbours → ℕ → Counts → Step → Answer
answer_of network stop c (Read u j) =
    if nat_le (length network) u then NoNode else
    if nat_le (degree network u) j then NoSlot else
    if moves_of c u == stop then Stopped else
    if is_marked c u j then Already else
    if nat_lt (moves_of c (neighbour network u j)) (moves_of c u) then Behind else
    Taken
answer_of network stop c (Write u) =
    if nat_le (length network) u then NoNode else
    if moves_of c u == stop then Stopped else
    if all_marked c u (degree network u) then Moved else
    NotReady

-- the slot j of u is marked
abbrev pub marked : Counts → ℕ → ℕ → Counts
marked c u j = record { moves = c.moves; marks = set c.marks u (set (marks_of c u) j true) }

-- u has moved once more, and has no slot marked
abbrev pub moved : Counts → ℕ → Counts
moved c u = record { moves = set c.moves u (moves_of c u + 1); marks = set c.marks u (map (λ _. false) (marks_of c u)) }

-- what a step with this answer changes
abbrev pub change : Counts → Step → Answer → Counts
change c (Read u j) Taken = marked c u j
change c (Write u) Moved = moved c u
change c step answer = c

-- the counts after a step
abbrev pub after : Neighbours → ℕ → Counts → Step → Counts
after network stop c step = change c step (answer_of network stop c step)

-- the counts after a list of steps
abbrev pub run : Neighbours → ℕ → Counts → List Step → Counts
run network stop c [] = c
run network stop c (step ∷ steps) = run network stop (after network stop c step) steps

-- the answers to a list of steps
abbrev pub answers : Neighbours → ℕ → Counts → List Step → List Answer
answers network stop c [] = []
answers network stop c (step ∷ steps) = answer_of network stop c step ∷ answers network stop (after network stop c step) steps

-- a count for each node, and a mark for each slot
pub record HasShape (network : Neighbours) (c : Counts) : Type 0 where
  pub moves : length c.moves ≡ length network
  pub marks : length c.marks ≡ length network
  pub slots : (u : ℕ) → length (marks_of c u) ≡ degree network u

-- linked nodes' counts differ by at most one; a slot is marked only where the neighbour isn't behind; no count exceeds the stop; no slot is marked at the stop
pub record InStep (network : Neighbours) (stop : ℕ) (c : Counts) : Type 0 where
  pub near : (u j : ℕ) → j < degree network u → (moves_of c u ≤ moves_of c (neighbour network u j) + 1) × (moves_of c (neighbour network u j) ≤ moves_of c u + 1)
  pub level : (u j : ℕ) → j < degree network u → is_marked c u j ≡ true → moves_of c u ≤ moves_of c (neighbour network u j)
  pub within : (u : ℕ) → moves_of c u ≤ stop
  pub unstopped : (u j : ℕ) → is_marked c u j ≡ true → moves_of c u < stop

-- after every list of steps from the start the counts are in step
abbrev pub StaysInStep : Type 0
StaysInStep =
    (network : Neighbours) (start stop : ℕ) (steps : List Step) → IsNetwork network → start ≤ stop → InStep network stop (run network stop (at_start network start) steps)

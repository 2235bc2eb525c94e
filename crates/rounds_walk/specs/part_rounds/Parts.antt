-- A part of a network: some of its nodes, and those that are neighbours of them.
use Rattle.std.specs.Prelude.{ℕ, ◌≡◌, ◌≤◌, ◌<◌, ◌*◌, ◌/◌, ◌==◌, ◌||◌, Bool, not, List, length, map, take, slice_index, nat_lt, Option, Some, None, if◌then◌else◌}
use Rattle.std.specs.List.{count_by}
use Rattle.std.specs.List.Sorted.{IsPermutation}
use Rattle.std.specs.Str.{bytes_eq}
use Rattle.rule_check.specs.declared.state.State.{State}
use Rattle.rule_check.specs.declared.state.Near.{Near}
use Rattle.rule_check.specs.Value.{Rules, next_state}
use Rattle.link_net.specs.Neighbours.{Neighbours, AreRows, numbers_below, row}
use Rattle.rounds_plan.specs.Rounds.{round_from}
use Rattle.rounds_plan.specs.Lockstep.{state_in}
use Rattle.rounds_walk.specs.declared.part_rounds.fault.PartFault.{PartFault}
use Rattle.rounds_walk.specs.declared.part_rounds.fault.PartFault.TheVariants.{NumberCount, WordCount, RoomCount}

-- a neighbour at a place of a part, as a rule sees it: its number in the whole network, the weight of the link to it, and the state at the place
abbrev pub part_near : List ℕ → List State → ℕ × ℕ → Near
part_near ids states a = record { id = slice_index ids a.0; weight = a.1; state = state_in states a.0 }

-- the neighbours of the node at place i of a part, as a rule sees them
abbrev pub part_nears : List ℕ → Neighbours → List State → ℕ → List Near
part_nears ids rows states i = map (part_near ids states) (row rows i)

-- the next state of the node at place i of a part, in the step from this round
abbrev pub part_next : Rules → List ℕ → Neighbours → ℕ → List State → ℕ → State
part_next rules ids rows round states i = next_state rules round (slice_index ids i) (state_in states i) (part_nears ids rows states i)

-- the next states of the first nodes of a part, so many of them
abbrev pub part_states : Rules → List ℕ → Neighbours → ℕ → List State → ℕ → List State
part_states rules ids rows round states own = map (part_next rules ids rows round states) (numbers_below own)

-- the next state of the node at place i of a part is another one
abbrev pub is_changed : Rules → List ℕ → Neighbours → ℕ → List State → ℕ → Bool
is_changed rules ids rows round states i = not (bytes_eq (part_next rules ids rows round states i).words (state_in states i).words)

-- how many of the first nodes of a part change
abbrev pub changed_count : Rules → List ℕ → Neighbours → ℕ → List State → ℕ → ℕ
changed_count rules ids rows round states own = count_by (is_changed rules ids rows round states) (numbers_below own)

-- how many nodes the words of all fields of all own nodes are those of: none where there is no field, since division by 0 gives 0
abbrev pub own_nodes : Rules → ℕ → ℕ
own_nodes rules room = room / length rules.fields

-- why no round is made of a part with these numbers and rows, so many words of its nodes, and room for so many: the first of these that holds
abbrev pub part_fault_of : Rules → List ℕ → Neighbours → ℕ → ℕ → Option PartFault
part_fault_of rules ids rows words room =
    if not (length ids == length rows) then Some NumberCount
    else if not (words == length rows * length rules.fields) then Some WordCount
    else if nat_lt (length rows) (own_nodes rules room) || not (own_nodes rules room * length rules.fields == room) then Some RoomCount
    else None

-- a neighbour and a weight with the neighbour's number in the whole network in place of its place in the part
abbrev pub in_whole : List ℕ → ℕ × ℕ → ℕ × ℕ
in_whole ids a = (slice_index ids a.0, a.1)

-- Rows are a part of a whole network, in which the node at place i has number i of `ids`: each of the first nodes, so many of them, has the neighbours and weights that the node with its number has, in some order. What neighbours the others have is not asked.
pub record IsPart (own : ℕ) (ids : List ℕ) (rows whole : Neighbours) : Type 0 where
  pub sound : AreRows rows
  pub numbers : length ids ≡ length rows
  pub within : own ≤ length rows
  pub links : (i : ℕ) → i < own → IsPermutation (map (in_whole ids) (row rows i)) (row whole (slice_index ids i))

-- Where rows are a part of a whole network, and each node of the part has the state that the node with its number has, the next states of the part's first nodes are those that a round of the whole gives the nodes with their numbers.
abbrev pub PartsMakeTheRound : Type 0
PartsMakeTheRound = (rules : Rules) (whole rows : Neighbours) (own : ℕ) (ids : List ℕ) (round : ℕ) (at : ℕ → State) (states : List State)
    → IsPart own ids rows whole → ((i : ℕ) → i < length ids → state_in states i ≡ at (slice_index ids i))
    → part_states rules ids rows round states own ≡ map (round_from rules whole round at) (take own ids)

-- The naive machine: nodes that do not wait, and that show their current state alone. Beside it stands the count machine of
-- `unison_world` (Counting), which refuses a read of a neighbour that is behind and a move before all neighbours are read.
use Rattle.std.specs.Prelude.{ℕ, ◌+◌, List, [], map, length, set, slice_get, slice_index_or, nat_lt, if◌then◌else◌, Option, Some, None}
use Rattle.std.specs.List.{fold}
use Rattle.rule_check.specs.declared.state.State.{State}
use Rattle.rule_check.specs.declared.state.Near.{Near}
use Rattle.rule_check.specs.Value.{Rules, next_state}
use Rattle.link_net.specs.Neighbours.{slot_at, numbers_below}
use Rattle.rounds_plan.specs.Configs.{blank}
use Rattle.rounds_plan.specs.Lockstep.{state_in, near_at, nears_in}
use Rattle.rounds_plan.specs.Plans.{PlanView}
use Rattle.unison_world.specs.declared.step.Step.{Step}
use Rattle.unison_world.specs.declared.step.Step.TheVariants.{Read, Write}

-- A node: how often it has moved, its state, and its desk. On the desk stands at each slot the neighbour there as a rule sees it,
-- with a copy of the state that was read there last.
pub record NaiveNode : Type 0 where
  pub moves : ℕ
  pub state : State
  pub desk : List Near

-- what stands where there is no node
abbrev pub nobody : NaiveNode
nobody = record { moves = 0; state = blank; desk = [] }

-- the node of a number
abbrev pub node_in : List NaiveNode → ℕ → NaiveNode
node_in nodes u = slice_index_or nodes u nobody

-- the state of a node now
abbrev pub state_now : List NaiveNode → ℕ → State
state_now nodes u = (node_in nodes u).state

-- before any step: at the plan's start, with the initial state, and on the desk copies of the neighbours' initial states
abbrev pub opening_node : PlanView → ℕ → NaiveNode
opening_node p u = record { moves = p.start; state = state_in p.opening u; desk = nears_in p.network (state_in p.opening) u }

-- all nodes before any step
abbrev pub opening_nodes : PlanView → List NaiveNode
opening_nodes p = map (opening_node p) (numbers_below (length p.network))

-- the node with this copy at a slot of its desk
abbrev pub with_copy : ℕ → Near → NaiveNode → NaiveNode
with_copy j near n = record { moves = n.moves; state = n.state; desk = set n.desk j near }

-- Node u has moved: to the next state by its own state and the copies on its desk, whatever these are, in the step from the round of
-- its own count. The copies stay.
abbrev pub moved : Rules → ℕ → NaiveNode → NaiveNode
moved rules u n = record { moves = n.moves + 1; state = next_state rules n.moves u n.state n.desk; desk = n.desk }

-- what a read of u at its slot j changes, where a neighbour is there: the copy is the state that the neighbour has now, however often either has moved
abbrev pub after_read : List NaiveNode → ℕ → ℕ → Option (ℕ × ℕ) → List NaiveNode
after_read nodes u j None = nodes
after_read nodes u j (Some link) = set nodes u (with_copy j (near_at (state_now nodes) link) (node_in nodes u))

-- what a write of u changes, where there is such a node: below the stop it moves
abbrev pub after_write : Rules → ℕ → List NaiveNode → ℕ → Option NaiveNode → List NaiveNode
after_write rules stop nodes u None = nodes
after_write rules stop nodes u (Some n) = if nat_lt n.moves stop then set nodes u (moved rules u n) else nodes

-- the nodes after a step
abbrev pub after : PlanView → ℕ → List NaiveNode → Step → List NaiveNode
after p stop nodes (Read u j) = after_read nodes u j (slot_at p.network u j)
after p stop nodes (Write u) = after_write p.program stop nodes u (slice_get nodes u)

-- the nodes after a list of steps
abbrev pub run : PlanView → ℕ → List NaiveNode → List Step → List NaiveNode
run p stop nodes steps = fold (after p stop) nodes steps

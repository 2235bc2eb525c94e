-- The nodes of a world are the picture of its counts.
use Rattle.std.specs.Prelude.{◌≡◌, ℕ, ◌+◌, ◌-◌, ◌%◌, ◌≤◌, List, length, map, slice_get, Some}
use Rattle.rule_check.specs.declared.state.State.{State}
use Rattle.rule_check.specs.Value.{Rules}
use Rattle.link_net.specs.Neighbours.{degree}
use Rattle.rounds_plan.specs.Configs.{most_rounds}
use Rattle.rounds_plan.specs.Plans.{PlanView}
use Rattle.rounds_plan.specs.Starts.{IsSimplePlan}
use Rattle.rounds_plan.specs.Lockstep.{lockstep}
use Rattle.unison_node.specs.declared.desk.Seat.{Seat}
use Rattle.unison_node.specs.Desks.{cleared}
use Rattle.phase_register.specs.Looks.{published}
use Rattle.unison_world.specs.declared.node.Node.{Node}
use Rattle.unison_world.specs.Counting.{Counts, InStep}
use Rattle.unison_world.specs.Gathered.{gathered_sums}

-- the counts, as the nodes show them
abbrev pub counts_of : List Node → Counts
counts_of nodes = record { moves = map (λ (n : Node). n.moves) nodes; marks = map (λ (n : Node). n.desk.marks) nodes }

-- what the node with number u knows of itself
abbrev pub seat_of : ℕ → Node → Seat
seat_of u n = record { id = u; phase = n.register.phase; own = n.register.current; round = n.moves }

-- the node after a move to the state s
abbrev pub moved_node : Rules → Node → State → Node
moved_node rules n s = record { moves = n.moves + 1; register = published n.register s; desk = cleared rules n.desk }

-- The node with number u has the phase, the lockstep states and the sums of its count. Subtraction stops at 0 and the
-- lockstep state of a round before the start is the opening one, so at the start the state before is the initial state.
pub record IsNodePicture (plan : PlanView) (u : ℕ) (node : Node) : Type 0 where
  pub started : plan.start ≤ node.moves
  pub phase : node.register.phase ≡ (plan.phase + node.moves) % 3
  pub current : node.register.current ≡ lockstep plan node.moves u
  pub previous : node.register.previous ≡ lockstep plan (node.moves - 1) u
  pub slots : length node.desk.marks ≡ degree plan.network u
  pub sums : node.desk.sums ≡ gathered_sums plan u node.moves node.desk.marks

-- one node for each of the plan, each the picture of its count
pub record IsDrawn (plan : PlanView) (nodes : List Node) : Type 0 where
  pub well_formed : IsSimplePlan plan
  pub one_each : length nodes ≡ length plan.network
  pub each : (u : ℕ) (node : Node) → slice_get nodes u ≡ Some node → IsNodePicture plan u node

-- the same, for counts in step with a stop within the limit
pub record IsPicture (plan : PlanView) (stop : ℕ) (nodes : List Node) : Type 0 where
  pub limit : stop ≤ most_rounds
  pub drawn : IsDrawn plan nodes
  pub in_step : InStep plan.network stop (counts_of nodes)

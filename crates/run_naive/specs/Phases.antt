-- Rounds in phases: all nodes read, and then all move.
use Rattle.std.specs.Prelude.{◌≡◌, ℕ, ◌+◌, ◌<◌, ◌≤◌, List, map, length}
use Rattle.std.specs.Prelude.{Contains}
use Rattle.rounds_plan.specs.Lockstep.{lockstep}
use Rattle.rounds_plan.specs.Plans.{PlanView}
use Rattle.link_net.specs.Neighbours.{IsNetwork, Neighbours, degree, numbers_below}
use Rattle.unison_world.specs.declared.step.Step.{Step}
use Rattle.unison_world.specs.declared.step.Step.TheVariants.{Read, Write}
use Rattle.run_naive.specs.Naive.{NaiveNode, node_in, opening_nodes, run}

-- all nodes have moved as often as there are rounds, and have the states of that round; whatever copies they have
pub record AreAtRound (p : PlanView) (t : ℕ) (nodes : List NaiveNode) : Type 0 where
  pub one_each : length nodes ≡ length p.network
  pub moves : (u : ℕ) → u < length p.network → (node_in nodes u).moves ≡ t
  pub states : (u : ℕ) → u < length p.network → (node_in nodes u).state ≡ lockstep p t u
  pub slots : (u : ℕ) → u < length p.network → length (node_in nodes u).desk ≡ degree p.network u

-- a read of each of these slots, given as a node and a place, in order
abbrev pub reads_of : List (ℕ × ℕ) → List Step
reads_of slots = map (λ a. Read a.0 a.1) slots

-- each slot of each node is among these
abbrev pub AreAllSlots : Neighbours → List (ℕ × ℕ) → Type 0
AreAllSlots network slots = (u j : ℕ) → j < degree network u → Contains slots (u, j)

-- a write of each node, by rising number
abbrev pub writes_of : Neighbours → List Step
writes_of network = map (λ u. Write u) (numbers_below (length network))

-- Where all nodes stand at a round, they stand at the next one after reads of all slots, in any order, and then a write of each node:
-- nothing goes wrong where all read before any moves. Before any step they stand at the plan's start.
pub record PhasesKeepTheRounds : Type 0 where
  pub start : (p : PlanView) → AreAtRound p p.start (opening_nodes p)
  pub next : (p : PlanView) (stop t : ℕ) (nodes : List NaiveNode) (slots : List (ℕ × ℕ)) → IsNetwork p.network → p.start ≤ t → t < stop
      → AreAtRound p t nodes → AreAllSlots p.network slots → AreAtRound p (t + 1) (run p stop (run p stop nodes (reads_of slots)) (writes_of p.network))

-- Where nodes of the naive machine do not have the states of the lockstep rounds.
use Rattle.std.specs.Prelude.{◌≡◌, ℕ, ◌+◌, ◌<◌, ◌≤◌, Bool, true, false, not, List, length, take, Option, MatchOption}
use Rattle.std.specs.List.{count_by}
use Rattle.std.specs.Str.{bytes_eq}
use Rattle.rule_check.specs.declared.state.State.{State}
use Rattle.link_net.specs.Neighbours.{numbers_below}
use Rattle.rounds_plan.specs.Lockstep.{lockstep, nears_in}
use Rattle.rounds_plan.specs.Plans.{PlanView}
use Rattle.unison_world.specs.declared.step.Step.{Step}
use Rattle.run_naive.specs.Naive.{NaiveNode, moved, node_in, opening_nodes, run}

-- the nodes of a plan after the first k steps of a list
abbrev pub nodes_after : PlanView → ℕ → List Step → ℕ → List NaiveNode
nodes_after p stop steps k = run p stop (opening_nodes p) (take k steps)

-- the state of node u in the lockstep rounds, after as many rounds as it has moved here
abbrev pub lockstep_of : PlanView → List NaiveNode → ℕ → State
lockstep_of p nodes u = lockstep p (node_in nodes u).moves u

-- whether two states have equal words
abbrev pub is_same : State → State → Bool
is_same s t = bytes_eq s.words t.words

-- whether node u does not have its lockstep state
abbrev pub differs : PlanView → List NaiveNode → ℕ → Bool
differs p nodes u = not (is_same (node_in nodes u).state (lockstep_of p nodes u))

-- how many nodes do not have their lockstep state
abbrev pub differing : PlanView → List NaiveNode → ℕ
differing p nodes = count_by (differs p nodes) (numbers_below (length p.network))

-- a step by its number in the list, counted from 1, and a node
pub record Moment : Type 0 where
  pub step : ℕ
  pub node : ℕ

-- after this step this node differs, and before it none ever did
pub record IsFirst (p : PlanView) (stop : ℕ) (steps : List Step) (m : Moment) : Type 0 where
  pub made : m.step ≤ length steps
  pub node : m.node < length p.network
  pub apart : differs p (nodes_after p stop steps m.step) m.node ≡ true
  pub none_before : (k u : ℕ) → k < m.step → u < length p.network → differs p (nodes_after p stop steps k) u ≡ false

-- no node ever differs, before the first step or after any
abbrev pub NeverDiffers : PlanView → ℕ → List Step → Type 0
NeverDiffers p stop steps = (k u : ℕ) → k ≤ length steps → u < length p.network → differs p (nodes_after p stop steps k) u ≡ false

-- the first difference, or that there is none
abbrev pub IsFirstDifference : PlanView → ℕ → List Step → Option Moment → Type 0
IsFirstDifference p stop steps first = MatchOption first (NeverDiffers p stop steps) (IsFirst p stop steps)

-- Where a node has its lockstep state, and the copies on its desk are its neighbours' states of the node's own round, it has its lockstep
-- state after a move too.
abbrev pub RightCopiesKeepTheRound : Type 0
RightCopiesKeepTheRound = (p : PlanView) (u : ℕ) (n : NaiveNode) → p.start ≤ n.moves → n.state ≡ lockstep p n.moves u
    → n.desk ≡ nears_in p.network (lockstep p n.moves) u → (moved p.program u n).state ≡ lockstep p (n.moves + 1) u

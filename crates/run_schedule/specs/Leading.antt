-- Lists of steps that lead one node ahead of the others.
use Rattle.std.specs.Prelude.{◌≡◌, ℕ, ◌+◌, ◌-◌, ◌<◌, ◌≤◌, ◌⊎◌, ◌++◌, ◌∷◌, [], true, min, max, List, length, take, Some, slice_get}
use Rattle.link_net.specs.Neighbours.{degree, neighbour}
use Rattle.rounds_plan.specs.Plans.{PlanView}
use Rattle.unison_world.specs.declared.step.Step.{Step}
use Rattle.unison_world.specs.Counting.{Counts, moves_of, is_marked}
use Rattle.unison_world.specs.View.{WorldView}
use Rattle.unison_trace.specs.Histories.{run_of}
use Rattle.run_schedule.specs.declared.ahead.Turn.{Turn}
use Rattle.run_schedule.specs.Lists.{IsStepList}
use Rattle.run_schedule.specs.Walks.{WalkView}
use Rattle.run_schedule.specs.Ways.{IsDistance, IsWay}

-- a node's count while another node leads: that one has moved at least as often; a node n links away has moved only for its next move, which needs the counts to fall by no more than one a link; one from which no way leads there has not moved
pub record IsBehind (plan : PlanView) (counts : Counts) (node u : ℕ) : Type 0 where
  pub least : moves_of counts u ≤ moves_of counts node
  pub near : (n : ℕ) → IsDistance plan.network n u node → moves_of counts u ≤ max plan.start ((moves_of counts node + 1) - n)
  pub apart : ((n : ℕ) → IsWay plan.network n u node → ⊥) → moves_of counts u ≡ plan.start

-- a node's count where another node was led to the stop: the stop less its distance from that one, but no less than the start
pub record IsLeftBack (plan : PlanView) (stop : ℕ) (counts : Counts) (node u : ℕ) : Type 0 where
  pub near : (n : ℕ) → IsDistance plan.network n u node → moves_of counts u ≡ max plan.start (stop - n)
  pub apart : ((n : ℕ) → IsWay plan.network n u node → ⊥) → moves_of counts u ≡ plan.start

-- after each of the steps, and before the first, every node is behind the one that leads
abbrev pub StaysAhead : PlanView → ℕ → ℕ → List Step → Type 0
StaysAhead plan stop node steps = (k u : ℕ) → u < length plan.network → IsBehind plan (run_of plan stop (take k steps)) node u

-- the node is ahead of all others at any time, and the list goes on to the limit, or until the node stands at the stop, and each other is left back
pub record LeadsNode (plan : PlanView) (stop node limit : ℕ) (steps : List Step) : Type 0 where
  pub list : IsStepList plan stop limit steps
  pub stays : StaysAhead plan stop node steps
  pub ahead : length steps < limit → moves_of (run_of plan stop steps) node ≡ stop
  pub rest : length steps < limit → (u : ℕ) → u < length plan.network → IsLeftBack plan stop (run_of plan stop steps) node u

-- a node never moved, or it moved for one that leads: over n links from there, and no more often than so many times less n
abbrev pub MovedFor : WorldView → ℕ → ℕ → ℕ → Type 0
MovedFor w node most u = (moves_of w.counts u ≡ w.plan.start) ⊎ ((n : ℕ) × IsWay w.plan.network n u node × (moves_of w.counts u + n ≤ most))

-- the turn at a place of those that wait, counted from that of the node that leads: its node is as many links from there, and has moved as many times less, and has read the slots below the turn's
pub record IsTurn (w : WorldView) (node place : ℕ) (turn : Turn) : Type 0 where
  pub there : turn.node < length w.plan.network
  pub slots : turn.slot ≤ degree w.plan.network turn.node
  pub way : IsWay w.plan.network place turn.node node
  pub down : moves_of w.counts turn.node + place ≡ moves_of w.counts node
  pub read : (j : ℕ) → j < turn.slot → is_marked w.counts turn.node j ≡ true

-- the turns that wait, from that of the node that leads on: no other slots are read, the node is below the stop, and the others moved for its next move alone
pub record AreTurns (w : WorldView) (node : ℕ) (turns : List Turn) : Type 0 where
  pub here : node < length w.plan.network
  pub each : (i : ℕ) (turn : Turn) → slice_get turns i ≡ Some turn → IsTurn w node i turn
  pub only : (u j : ℕ) → is_marked w.counts u j ≡ true → (i : ℕ) × (turn : Turn) × (slice_get turns i ≡ Some turn) × (turn.node ≡ u) × (j < turn.slot)
  pub below : 0 < length turns → moves_of w.counts node < w.stop
  pub moved : (u : ℕ) → u < length w.plan.network → MovedFor w node (moves_of w.counts node + min 1 (length turns)) u

-- the neighbour that a turn reads next is this one, and it has moved less often
pub record WaitsFor (w : WorldView) (turn : Turn) (v : ℕ) : Type 0 where
  pub slot : turn.slot < degree w.plan.network turn.node
  pub is : v ≡ neighbour w.plan.network turn.node turn.slot
  pub behind : moves_of w.counts v < moves_of w.counts turn.node

-- the neighbour that a turn reads next, if there is one, has moved as often
abbrev pub IsReady : WorldView → Turn → Type 0
IsReady w turn = turn.slot < degree w.plan.network turn.node → moves_of w.counts turn.node ≤ moves_of w.counts (neighbour w.plan.network turn.node turn.slot)

-- one step more was made
pub record TakesStep (old new : WalkView) : Type 0 where
  pub more : (step : Step) × (new.steps ≡ old.steps ++ step ∷ [])

-- the node stands at the stop, and the others moved for it alone
pub record HasLed (w : WorldView) (node : ℕ) : Type 0 where
  pub stop : moves_of w.counts node ≡ w.stop
  pub moved : (u : ℕ) → u < length w.plan.network → MovedFor w node w.stop u

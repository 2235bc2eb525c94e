-- The states of a plan's nodes, round by round. The plan's network are rows of any size.
use Rattle.std.specs.Prelude.{ℕ, ◌≡◌, ◌<◌, ◌≤◌, length}
use Rattle.rule_check.specs.Value.{Rules}
use Rattle.link_net.specs.Neighbours.{degree, neighbour}
use Rattle.rounds_blocks.specs.Walks.{Walked, state_by}
use Rattle.rounds_plan.specs.Plans.{PlanView}
use Rattle.rounds_plan.specs.Lockstep.{lockstep, lockstep_states}
use Rattle.rounds_plan.specs.Starts.{IsStart}

-- the states of all nodes of the plan after round t
pub record HasRound (p : PlanView) (t : ℕ) (walk : Walked) : Type 0 where
  pub rules : walk.rules ≡ p.program
  pub network : walk.network ≡ p.network
  pub states : (u : ℕ) → u < length p.network → state_by walk.words u ≡ lockstep p t u

-- of each plan from whose start on the walk was at round s, it is at round t
abbrev pub GoesOn : ℕ → ℕ → Walked → Walked → Type 0
GoesOn s t old new =
    (p : PlanView) → ((u j : ℕ) → j < degree p.network u → neighbour p.network u j < length p.network) → p.start ≤ s → HasRound p s old → HasRound p t new

-- a plan, and the round at which its nodes stand
pub record RoundView : Type 0 where
  pub plan : PlanView
  pub round : ℕ

-- what holds of a start, the code of its program and the number of its nodes
pub record IsPrepared (p : PlanView) (rules : Rules) (nodes : ℕ) : Type 0 where
  pub whole : IsStart p
  pub code : rules ≡ p.program
  pub count : nodes ≡ length p.network

-- what holds of a plan whose nodes stand at a round
pub record StandsAt (p : PlanView) (t : ℕ) (walk : Walked) : Type 0 where
  pub whole : IsStart p
  pub late : p.start ≤ t
  pub held : HasRound p t walk

-- the states of all nodes are the same after both rounds
abbrev pub AreAlike : PlanView → ℕ → ℕ → Type 0
AreAlike p s t = lockstep_states p s (length p.network) ≡ lockstep_states p t (length p.network)

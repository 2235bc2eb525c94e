-- What a node's next state is computed from, and the next state.
use Rattle.std.specs.Prelude.{◌≡◌, ℕ, List, length}
use Rattle.rule_check.specs.declared.state.State.{State}
use Rattle.rule_check.specs.declared.state.Near.{Near}
use Rattle.rule_check.specs.declared.state.Sums.{Sums}
use Rattle.rule_check.specs.Value.{here_at, next_state}
use Rattle.rule_check.specs.Gathering.{sums_at, finished}
use Rattle.rounds_plan.specs.Plans.{PlanView}

-- the plan, the node, its degree, its own state, its round and its desk's sums
pub record WorkView : Type 0 where
  pub plan : PlanView
  pub node : ℕ
  pub degree : ℕ
  pub own : State
  pub round : ℕ
  pub sums : Sums

-- work, and its result
pub record DoneView : Type 0 where
  pub work : WorkView
  pub state : State

-- the next state by the sums
abbrev pub next_of : WorkView → State
next_of w = finished w.plan.program w.round w.node w.degree w.own w.sums

-- work with its result
abbrev pub done_from : WorkView → DoneView
done_from w = record { work = w; state = next_of w }

-- the result is the next state by the sums; where they are the aggregates over as many neighbours as the degree, it is the next state from these
pub record IsDone (d : DoneView) : Type 0 where
  pub exact : d.state ≡ next_of d.work
  pub completes : (nears : List Near) → length nears ≡ d.work.degree
      → d.work.sums ≡ sums_at d.work.plan.program (here_at d.work.plan.program d.work.round d.work.node d.work.degree d.work.own nears)
      → d.state ≡ next_state d.work.plan.program d.work.round d.work.node d.work.own nears

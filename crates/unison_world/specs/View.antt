-- What a world is to its callers.
use Rattle.std.specs.Prelude.{ℕ, Bool, length, nat_lt}
use Rattle.rule_check.specs.declared.state.State.{State}
use Rattle.rule_check.specs.declared.state.Sums.{Sums}
use Rattle.rounds_plan.specs.Plans.{PlanView}
use Rattle.rounds_plan.specs.Lockstep.{lockstep}
use Rattle.unison_world.specs.declared.step.Step.{Step}
use Rattle.unison_world.specs.declared.step.Answer.{Answer}
use Rattle.unison_world.specs.Counting.{Counts, moves_of, marks_of, answer_of, after, at_start}
use Rattle.unison_world.specs.Gathered.{gathered_sums}

-- a plan, the stop, and the counts: all else of a world follows from these
pub record WorldView : Type 0 where
  pub plan : PlanView
  pub stop : ℕ
  pub counts : Counts

-- the world before any step
abbrev pub opened : PlanView → ℕ → WorldView
opened plan stop = record { plan = plan; stop = stop; counts = at_start plan.network plan.start }

-- the world with these counts in place of its own
abbrev pub with_counts : WorldView → Counts → WorldView
with_counts w c = record { plan = w.plan; stop = w.stop; counts = c }

-- the count machine's answer to a step
abbrev pub answer_in : WorldView → Step → Answer
answer_in w step = answer_of w.plan.network w.stop w.counts step

-- the world after a step: the count machine's next counts
abbrev pub world_after : WorldView → Step → WorldView
world_after w step = with_counts w (after w.plan.network w.stop w.counts step)

-- whether a number is a node's
abbrev pub is_node : WorldView → ℕ → Bool
is_node w u = nat_lt u (length w.plan.network)

-- the state that a node shows: the lockstep state of its count
abbrev pub state_of : WorldView → ℕ → State
state_of w u = lockstep w.plan (moves_of w.counts u) u

-- the sums on a node's desk
abbrev pub sums_of : WorldView → ℕ → Sums
sums_of w u = gathered_sums w.plan u (moves_of w.counts u) (marks_of w.counts u)

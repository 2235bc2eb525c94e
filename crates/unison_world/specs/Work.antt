-- Work that a world gives out, and what it answers to a result.
use Rattle.std.specs.Prelude.{◌≡◌, ℕ, ◌+◌, Option, Some, None}
use Rattle.link_net.specs.Neighbours.{degree}
use Rattle.rounds_plan.specs.Lockstep.{lockstep}
use Rattle.unison_world.specs.declared.step.Step.TheVariants.{Write}
use Rattle.unison_world.specs.declared.step.Answer.{Answer}
use Rattle.unison_world.specs.declared.step.Answer.TheVariants as answer
use Rattle.unison_world.specs.declared.step.WriteAnswer.{WriteAnswer}
use Rattle.unison_world.specs.declared.step.WriteAnswer.TheVariants.{Moved, NotReady, Stale, Stopped, NoNode}
use Rattle.unison_world.specs.Counting.{moves_of}
use Rattle.unison_world.specs.View.{WorldView, answer_in, world_after, state_of, sums_of}
use Rattle.unison_world.specs.WorkViews.{WorkView, next_of}

-- what stands in a world for a node
abbrev pub standing : WorldView → ℕ → WorkView
standing w u =
    record { plan = w.plan; node = u; degree = degree w.plan.network u; own = state_of w u; round = moves_of w.counts u; sums = sums_of w u }

-- the work of a node, by what a write would answer
abbrev pub work_for : WorldView → ℕ → Answer → Option WorkView
work_for w u answer.Moved = Some (standing w u)
work_for w u a = None

-- the work of a node that could move now; none where there is no such node, it stands at the stop or isn't ready
abbrev pub work_in : WorldView → ℕ → Option WorkView
work_in w u = work_for w u (answer_in w (Write u))

-- the next state by this work is the node's lockstep state of the round after its count
abbrev pub GivesNextState : WorldView → ℕ → WorkView → Type 0
GivesNextState w u work = next_of work ≡ lockstep w.plan (moves_of w.counts u + 1) u

-- program, own state, round, degree and sums are those that stand here for the node
pub record Fits (w : WorldView) (d : WorkView) : Type 0 where
  pub program : d.plan.program ≡ w.plan.program
  pub own : d.own ≡ state_of w d.node
  pub round : d.round ≡ moves_of w.counts d.node
  pub degree : d.degree ≡ degree w.plan.network d.node
  pub sums : d.sums ≡ sums_of w d.node

-- the answer to a result: that of a write, but stale where the result doesn't fit
abbrev pub IsPutAnswer : WorldView → WorkView → WriteAnswer → Type 0
IsPutAnswer w d NoNode = answer_in w (Write d.node) ≡ answer.NoNode
IsPutAnswer w d Stopped = answer_in w (Write d.node) ≡ answer.Stopped
IsPutAnswer w d NotReady = answer_in w (Write d.node) ≡ answer.NotReady
IsPutAnswer w d Stale = (answer_in w (Write d.node) ≡ answer.Moved) × (Fits w d → ⊥)
IsPutAnswer w d Moved = (answer_in w (Write d.node) ≡ answer.Moved) × Fits w d

-- only a move changes the world, and as a write does
abbrev pub after_put : WorldView → WorkView → WriteAnswer → WorldView
after_put w d Moved = world_after w (Write d.node)
after_put w d a = w

-- The registers of nodes at some counts, and what a node sees of a neighbour's.
use Rattle.std.specs.Prelude.{◌≡◌, ◌⊎◌, ℕ, ◌+◌, ◌-◌, ◌%◌, ◌≤◌, ◌<◌, List}
use Rattle.link_net.specs.Neighbours.{degree, neighbour}
use Rattle.phase_register.specs.Looks.{RegisterView, look_by_counts, look_by_phases}
use Rattle.phase_register.specs.declared.register.Look.{Look}
use Rattle.phase_register.specs.declared.register.Look.TheVariants.{Level, Ahead}
use Rattle.rounds_plan.specs.Plans.{PlanView}
use Rattle.rounds_plan.specs.Starts.{IsSimplePlan}
use Rattle.rounds_plan.specs.Lockstep.{lockstep}
use Rattle.unison_world.specs.declared.step.Step.{Step}
use Rattle.unison_world.specs.declared.step.Step.TheVariants.{Read}
use Rattle.unison_world.specs.declared.step.Answer.TheVariants.{Taken}
use Rattle.unison_world.specs.Counting.{Counts, moves_of, answer_of}
use Rattle.unison_trace.specs.Histories.{run_of}

-- the phase that a node shows: the plan's, as many steps on as the node has moved
abbrev pub phase_of : PlanView → Counts → ℕ → ℕ
phase_of plan c u = (plan.phase + moves_of c u) % 3

-- the register of a node: its phase, its lockstep state of the round of its count, and that of the round before; before its first
-- move both are the initial state
abbrev pub register_of : PlanView → Counts → ℕ → RegisterView
register_of plan c u = record { phase = phase_of plan c u; current = lockstep plan (moves_of c u) u; previous = lockstep plan (moves_of c u - 1) u }

-- what node u sees of the register of node v: level, ahead or behind, with the state to take
abbrev pub look_of : PlanView → Counts → ℕ → ℕ → Look
look_of plan c u v = look_by_counts (moves_of c u) (moves_of c v) (register_of plan c v)

-- node v has moved as often as node u, which sees its current state, or once more, and u sees its previous one; either is the lockstep
-- state of v in the round of u's own count
abbrev pub SeesOwnRound : PlanView → Counts → ℕ → ℕ → Type 0
SeesOwnRound plan c u v =
    ((moves_of c v ≡ moves_of c u) × (look_of plan c u v ≡ Level (lockstep plan (moves_of c u) v)))
    ⊎ ((moves_of c v ≡ moves_of c u + 1) × (look_of plan c u v ≡ Ahead (lockstep plan (moves_of c u) v)))

-- Whatever steps were made before: a read that is taken sees the state of the reader's own round, and any look at a neighbour is the one
-- that the two phases alone give.
pub record ReadsOwnRound : Type 0 where
  pub round : (plan : PlanView) (stop : ℕ) (steps : List Step) (u j : ℕ) → IsSimplePlan plan → plan.start ≤ stop
      → answer_of plan.network stop (run_of plan stop steps) (Read u j) ≡ Taken → SeesOwnRound plan (run_of plan stop steps) u (neighbour plan.network u j)
  pub phases : (plan : PlanView) (stop : ℕ) (steps : List Step) (u j : ℕ) → IsSimplePlan plan → plan.start ≤ stop → j < degree plan.network u
      → look_of plan (run_of plan stop steps) u (neighbour plan.network u j)
      ≡ look_by_phases (phase_of plan (run_of plan stop steps) u) (register_of plan (run_of plan stop steps) (neighbour plan.network u j))

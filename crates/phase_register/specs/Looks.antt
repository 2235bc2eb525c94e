-- What a register shows, to a node by its phase, and by its count of moves.
use Rattle.std.specs.Prelude.{ℕ, ◌==◌, nat_lt, if◌then◌else◌}
use Rattle.rule_check.specs.declared.state.State.{State}
use Rattle.phase_register.specs.declared.register.Look.{Look}
use Rattle.phase_register.specs.declared.register.Look.TheVariants.{Behind, Level, Ahead}
use Rattle.phase_register.specs.Phases.{next_phase}

-- what a node shows: its phase, its state, and its state before its last move
pub record RegisterView : Type 0 where
  pub phase : ℕ
  pub current : State
  pub previous : State

-- the register before any move
abbrev pub opening_register : ℕ → State → RegisterView
opening_register p s = record { phase = p; current = s; previous = s }

-- the register after a move to the state s
abbrev pub published : RegisterView → State → RegisterView
published r s = record { phase = next_phase r.phase; current = s; previous = r.current }

-- by phases: level, one ahead, or else behind
abbrev pub look_by_phases : ℕ → RegisterView → Look
look_by_phases own r =
    if r.phase == own then Level r.current else if r.phase == next_phase own then Ahead r.previous else Behind

-- by counts of moves, the node's own and the register's
abbrev pub look_by_counts : ℕ → ℕ → RegisterView → Look
look_by_counts mine theirs r =
    if theirs == mine then Level r.current else if nat_lt mine theirs then Ahead r.previous else Behind

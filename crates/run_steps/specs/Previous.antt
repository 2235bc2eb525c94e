-- The states that nodes had before their last move.
use Rattle.std.specs.Prelude.{◌≡◌, ℕ, ◌<◌, ◌-◌, List, length, slice_index_or}
use Rattle.rule_check.specs.declared.state.State.{State}
use Rattle.rounds_plan.specs.Configs.{blank}
use Rattle.rounds_plan.specs.Lockstep.{lockstep}
use Rattle.unison_world.specs.Counting.{moves_of}
use Rattle.unison_world.specs.View.{WorldView}

-- for each node the lockstep state that it had before its last move, which is the previous state of its register; at the start the initial one
pub record HasPrevious (w : WorldView) (previous : List State) : Type 0 where
  pub one_each : length previous ≡ length w.plan.network
  pub each : (u : ℕ) → u < length w.plan.network → slice_index_or previous u blank ≡ lockstep w.plan (moves_of w.counts u - 1) u

-- One field's value put into a state.
use Rattle.std.specs.Prelude.{ℕ, Option, Some, None, slice_set}
use Rattle.rule_check.specs.declared.state.State.{State}

-- the state with this value in its field, where there is one
abbrev pub with_value : ℕ → Option ℕ → State → State
with_value field None state = state
with_value field (Some value) state = record { words = slice_set state.words field value }

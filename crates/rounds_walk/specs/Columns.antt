-- Values of fields in many states.
use Rattle.std.specs.Prelude.{ℕ, List, map, slice_index}
use Rattle.rule_check.specs.declared.state.State.{State}

-- the value of a field in each state, in their order; 0 for a field that states do not have
abbrev pub column : ℕ → List State → List ℕ
column field states = map (λ state. slice_index state.words field) states

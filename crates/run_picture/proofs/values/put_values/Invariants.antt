use Rattle.std.proofs.Common.{◌≡◌, ◌++◌, drop, map, slice_index}
use Rattle.run_picture.proofs.values.put_values.Given as goal

abbrev pub invariant-loop-state : goal.invariant-loop-state
invariant-loop-state l =
    l.values.items ++ map (λ state. slice_index state.words l.field) (drop l.state-index l.states) ≡ l.initial.values.items ++ map (λ state. slice_index state.words l.field) l.states

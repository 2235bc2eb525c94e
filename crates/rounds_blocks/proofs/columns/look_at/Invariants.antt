use Rattle.std.proofs.Common.{◌≡◌, ◌<◌, ℕ, length, slice_index_or}
use Rattle.rule_check.specs.declared.state.State.{State}
use Rattle.rounds_blocks.proofs.columns.look_at.Given as goal

-- the first of them are looked at
abbrev pub invariant-loop-state : goal.invariant-loop-state
invariant-loop-state l = (k : ℕ) (d : State) → k < l.state-index → length (slice_index_or l.states k d).words ≡ 8

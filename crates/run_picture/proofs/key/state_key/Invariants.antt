use Rattle.std.proofs.Common.{◌≡◌, ◌-◌}
use Rattle.std.specs.List.{range_with_len}
use Rattle.run_picture.specs.Keys.{key_from, state_key}
use Rattle.run_picture.specs.Shades.{state_count}
use Rattle.run_picture.proofs.key.state_key.Given as goal

abbrev pub invariant-loop-state : goal.invariant-loop-state
invariant-loop-state l = key_from l.key (range_with_len l.state (state_count l.styles - l.state)) ≡ state_key l.styles

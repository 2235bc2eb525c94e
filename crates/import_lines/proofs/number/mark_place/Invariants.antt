use Rattle.std.proofs.Common.{◌≡◌, ◌+◌, drop}
use Rattle.std.specs.List.{position_or_len}
use Rattle.import_lines.specs.Weights.{is_exponent_mark}
use Rattle.import_lines.proofs.number.mark_place.Given as goal

abbrev pub invariant-loop-place : goal.invariant-loop-place
invariant-loop-place l = l.place + position_or_len is_exponent_mark (drop l.place l.bytes) ≡ position_or_len is_exponent_mark l.bytes

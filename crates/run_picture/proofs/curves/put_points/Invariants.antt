use Rattle.std.proofs.Common.{◌≡◌, ◌++◌, drop, string_bytes}
use Rattle.run_picture.specs.Curves.{points_text}
use Rattle.run_picture.proofs.curves.put_points.Given as goal

abbrev pub invariant-loop-row : goal.invariant-loop-row
invariant-loop-row l = string_bytes l.out ++ points_text (drop l.row-index l.rows) l.value ≡ string_bytes l.initial.out ++ points_text l.rows l.value

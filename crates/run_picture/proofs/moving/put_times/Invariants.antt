use Rattle.std.proofs.Common.{◌≡◌, ◌++◌, drop, string_bytes}
use Rattle.run_picture.specs.Moving.{times_text}
use Rattle.run_picture.proofs.moving.put_times.Given as goal

abbrev pub invariant-loop-change : goal.invariant-loop-change
invariant-loop-change l = string_bytes l.out ++ times_text l.frames (drop l.change-index l.changes) ≡ string_bytes l.initial.out ++ times_text l.frames l.changes

use Rattle.std.proofs.Common.{◌≡◌, ◌++◌, drop, string_bytes}
use Rattle.run_picture.specs.Moving.{fills_text}
use Rattle.run_picture.proofs.moving.put_fills.Given as goal

abbrev pub invariant-loop-change : goal.invariant-loop-change
invariant-loop-change l = string_bytes l.out ++ fills_text l.key (drop l.change-index l.changes) ≡ string_bytes l.initial.out ++ fills_text l.key l.changes

use Rattle.std.proofs.Common.{◌≡◌, ◌++◌, drop}
use Rattle.run_picture.specs.Moving.{changes_from, changes_of}
use Rattle.run_picture.proofs.changes.changes_of.Given as goal

abbrev pub invariant-loop-frame : goal.invariant-loop-frame
invariant-loop-frame l = l.changes.items ++ changes_from l.class l.frame (drop l.frame l.classes) ≡ changes_of l.classes

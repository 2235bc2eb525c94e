use Rattle.std.proofs.Common.{◌≡◌, drop}
use Rattle.run_watch.specs.Watching.{is_changed}
use Rattle.run_watch.proofs.changes.is_changed.Given as goal

abbrev pub invariant-loop-place : goal.invariant-loop-place
invariant-loop-place l = is_changed (drop l.place-index l.fields) l.old l.new ≡ is_changed l.fields l.old l.new

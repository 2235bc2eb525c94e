use Rattle.std.proofs.Common.{◌≡◌, length}
use Rattle.app_rounds.proofs.count_runs.runs_of.Given as goal

abbrev pub invariant-loop-place : goal.invariant-loop-place
invariant-loop-place l = length l.runs.items ≡ l.place

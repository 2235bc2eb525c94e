use Rattle.std.proofs.Common.{◌≢◌, ℕ, ◌<◌, map, Some, slice_get}
use Rattle.report_files.proofs.tables.marks.place_of.Given as goal

abbrev pub invariant-loop-place : goal.invariant-loop-place
invariant-loop-place l = (k : ℕ) → k < l.place → slice_get (map (λ f. f.now) l.fields) k ≢ Some l.name

use Rattle.std.proofs.Common.{◌≡◌, drop}
use Rattle.run_counts.specs.Rows.{count_in}
use Rattle.run_counts.proofs.values.count_in.Given as goal

abbrev pub invariant-loop-count : goal.invariant-loop-count
invariant-loop-count l = count_in (drop l.count-index l.counts) l.value ≡ count_in l.counts l.value

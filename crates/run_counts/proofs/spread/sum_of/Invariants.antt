use Rattle.std.proofs.Common.{◌≡◌, ◌≤◌, ◌+◌, ◌*◌, ◌^◌, drop, sum}
use Rattle.run_counts.proofs.spread.sum_of.Given as goal

abbrev pub invariant-loop-number : goal.invariant-loop-number
invariant-loop-number l = record {
  few : l.total ≤ l.number-index * 2 ^ 64;
  sum : l.total + sum (drop l.number-index l.numbers) ≡ sum l.numbers;
}

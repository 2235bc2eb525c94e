use Rattle.std.proofs.Common.{◌≡◌, ◌≤◌, ◌+◌, ◌*◌, ◌^◌, drop, map, sum}
use Rattle.run_counts.specs.Spread.{square_off}
use Rattle.run_counts.proofs.spread.squares_of.Given as goal

abbrev pub invariant-loop-number : goal.invariant-loop-number
invariant-loop-number l = record {
  few : l.squares ≤ l.number-index * ((l.count * 2 ^ 64) * (l.count * 2 ^ 64));
  sum : l.squares + sum (map (square_off l.count l.total) (drop l.number-index l.numbers)) ≡ sum (map (square_off l.count l.total) l.numbers);
}

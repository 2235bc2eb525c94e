use Rattle.std.proofs.Common.{◌≡◌, ◌≤◌, ◌<◌, ◌+◌, ◌-◌, ◌*◌, ◌^◌}
use Rattle.run_counts.proofs.spread.root_of.Given as goal

abbrev pub invariant-loop-halving : goal.invariant-loop-halving
invariant-loop-halving l = record {
  step : l.step ≡ 2 ^ (79 - l._halving);
  most : l.root + l.step ≤ 2 ^ 79;
  reached : l.divisor * (l.root * l.root) ≤ l.number;
  above : l.number < l.divisor * ((l.root + l.step) * (l.root + l.step));
}

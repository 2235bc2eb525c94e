use Rattle.std.proofs.Common.{◌≡◌, ◌≤◌, ◌+◌, drop, sum}
use Rattle.net_random.proofs.block.block_total.Given as goal

abbrev pub invariant-loop-size : goal.invariant-loop-size
invariant-loop-size l = record {
  few : l.nodes ≤ l.most;
  sum : l.nodes + sum (drop l.size-index l.sizes) ≡ sum l.sizes;
}

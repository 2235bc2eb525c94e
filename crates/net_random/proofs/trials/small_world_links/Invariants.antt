use Rattle.std.proofs.Common.{◌≡◌}
use Rattle.net_random.specs.Changed.{AreKnown}
use Rattle.net_random.specs.RandomNetworks.{ring_links, starts}
use Rattle.net_random.proofs.trials.small_world_links.Given as goal

abbrev pub invariant-loop-place : goal.invariant-loop-place
invariant-loop-place l = record {
  known : AreKnown l.nodes l.changed.links.items l.changed.pairs.keys;
  begin : starts l.changed.links.items ≡ starts (ring_links l.nodes l.near);
  kept : l.rewire ≡ 0 → l.changed.links.items ≡ ring_links l.nodes l.near;
}

use Rattle.std.proofs.Common.{◌≡◌}
use Rattle.net_random.specs.Changed.{AreKnown}
use Rattle.net_random.specs.RandomNetworks.{starts}
use Rattle.net_random.proofs.trials.lead_elsewhere.Given as goal

abbrev pub invariant-loop : goal.invariant-loop
invariant-loop l = record {
  known : AreKnown l.nodes l.fn.changed.links.items l.fn.changed.pairs.keys → AreKnown l.nodes l.changed.links.items l.changed.pairs.keys;
  begin : starts l.changed.links.items ≡ starts l.fn.changed.links.items;
}

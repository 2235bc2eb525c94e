use Rattle.std.proofs.Common.{◌≡◌, ℕ, ◌+◌, ◌≤◌, length}
use Rattle.net_facts.specs.Distances.{IsDistance}
use Rattle.net_facts.specs.Reaching.{AreReached, IsClosedBelow}
use Rattle.net_facts.proofs.Levels.{AreWithin}
use Rattle.net_facts.proofs.walks.eccentricity.Given as goal

abbrev pub invariant-loop-distance : goal.invariant-loop-distance
invariant-loop-distance l = record {
  whole : AreReached l.reached.marks.items l.reached.nodes.items;
  size : length l.reached.marks.items ≡ length l.network;
  begin : l.begin ≤ length l.reached.nodes.items;
  closed : IsClosedBelow l.network l.reached.nodes.items l.begin;
  within : AreWithin l.network l.node l.distance l.reached.nodes.items;
  far : (w : ℕ) × IsDistance l.network l.node w l.distance;
  few : l.distance + 1 ≤ length l.reached.nodes.items;
}

use Rattle.std.proofs.Common.{◌≡◌, length}
use Rattle.std.specs.Prelude.{Contains}
use Rattle.net_facts.specs.Parts.{AreJoined}
use Rattle.net_facts.specs.Reaching.{AreReached, Grows, IsClosedBelow}
use Rattle.net_facts.proofs.parts.reach_all.Given as goal

abbrev pub invariant-loop-next : goal.invariant-loop-next
invariant-loop-next l = record {
  whole : AreReached l.reached.marks.items l.reached.nodes.items;
  size : length l.reached.marks.items ≡ length l.network;
  node : Contains l.reached.nodes.items l.node;
  grows : Grows (AreJoined l.network l.node) l.fn.reached.nodes.items l.reached.nodes.items;
  closed : IsClosedBelow l.network l.reached.nodes.items l.next;
}

use Rattle.std.proofs.Common.{◌≡◌, ℕ, ◌<◌, ◌≤◌, length}
use Rattle.std.specs.Prelude.{Contains}
use Rattle.net_facts.specs.Reaching.{AreReached, IsClosed}
use Rattle.net_facts.proofs.Joins.{PartsOf}
use Rattle.net_facts.proofs.parts.components.Given as goal

abbrev pub invariant-loop-node : goal.invariant-loop-node
invariant-loop-node l = record {
  whole : AreReached l.reached.marks.items l.reached.nodes.items;
  size : length l.reached.marks.items ≡ length l.network;
  closed : IsClosed l.network l.reached.nodes.items;
  passed : (u : ℕ) → u < l.node → Contains l.reached.nodes.items u;
  parts : PartsOf l.network l.reached.nodes.items l.count;
  few : l.count ≤ l.node;
}

use Rattle.std.proofs.Common.{◌≡◌, ℕ, ◌<◌, ◌≤◌, length, get_or}
use Rattle.link_net.specs.Arcs.{Arc, IsFirst}
use Rattle.large_pack.proofs.rows.offsets.Given as goal

abbrev pub invariant-loop-node : goal.invariant-loop-node
invariant-loop-node l = record {
  bound : l.place ≤ length l.arcs;
  before : (k : ℕ) (d : Arc) → k < l.place → (get_or l.arcs k d).0 < l.node;
  count : length l.offsets.items ≡ l.node;
  firsts : (u : ℕ) → u < l.node → IsFirst l.arcs u (get_or l.offsets.items u 0);
}

use Rattle.std.proofs.Common.{◌≡◌, ℕ, ◌<◌, length, slice_index}
use Rattle.link_net.specs.Arcs.{IsFirst}
use Rattle.link_net.proofs.tables.offsets.Given as goal

abbrev pub invariant-loop-node : goal.invariant-loop-node
invariant-loop-node l = (length l.offsets.items ≡ l.node) × ((u : ℕ) → u < l.node → IsFirst l.arcs u (slice_index l.offsets.items u))

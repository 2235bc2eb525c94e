use Rattle.std.proofs.Common.{◌≡◌, ℕ, length, slice_get, Some, take}
use Rattle.unison_world.specs.declared.node.Node.{Node}
use Rattle.unison_world.specs.Pictures.{IsNodePicture, counts_of}
use Rattle.unison_world.specs.Counting.{at_start}
use Rattle.unison_world.proofs.opening.opening_nodes.Given as goal

abbrev pub invariant-loop-node : goal.invariant-loop-node
invariant-loop-node l =
    record {
      count : length l.nodes.items ≡ l.node;
      each : (u : ℕ) (n : Node) → slice_get l.nodes.items u ≡ Some n → IsNodePicture l.plan u n;
      counts : counts_of l.nodes.items ≡ at_start (take l.node l.plan.network) l.plan.start;
    }

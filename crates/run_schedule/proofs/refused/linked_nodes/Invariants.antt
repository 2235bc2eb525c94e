use Rattle.std.proofs.Common.{ℕ, ◌<◌, length}
use Rattle.std.specs.List.{All}
use Rattle.link_net.specs.Neighbours.{degree}
use Rattle.run_schedule.specs.Mixing.{IsLinked}
use Rattle.run_schedule.proofs.refused.linked_nodes.Given as goal

abbrev pub invariant-loop-node : goal.invariant-loop-node
invariant-loop-node l =
    record {
      linked : All (IsLinked l.network) l.linked.items;
      some : (u : ℕ) → u < l.node → 0 < degree l.network u → 0 < length l.linked.items;
    }

use Rattle.std.proofs.Common.{◌≡◌, ◌-◌, ◌%◌, ◌==◌, ◌++◌, All, map}
use Rattle.std.specs.List.{filter, range_with_len}
use Rattle.unison_pool.specs.Parts.{part_of}
use Rattle.unison_pool.proofs.team.Team.nodes_of.Given as goal

abbrev pub invariant-loop-node : goal.invariant-loop-node
invariant-loop-node g l = record {
  nodes :
      map (λ d. d.node) l.nodes.items ++ filter (λ u. (u % l.part.workers) == l.part.worker) (range_with_len l.node (l.node-end - l.node))
      ≡ part_of l.node-end l.part.workers l.part.worker;
  at_start : All (λ d. d.moves ≡ l.moves) l.nodes.items;
}

use Rattle.std.proofs.Common.{◌≤◌, ◌-◌, All}
use Rattle.std.specs.List.Sorted.{IsPermutation}
use Rattle.link_net.specs.Neighbours.{numbers_below}
use Rattle.rounds_blocks.specs.Batches.{IsBatch, nodes_of}
use Rattle.rounds_blocks.proofs.layout.all_batches.Given as goal

-- the nodes before the first one stand in the batches
abbrev pub invariant-loop-first : goal.invariant-loop-first
invariant-loop-first l = record {
  inside : l.first ≤ l.nodes;
  each : All (IsBatch l.network) l.batches.items;
  once : IsPermutation (numbers_below l.first) (nodes_of l.batches.items);
}

abbrev pub decreases-loop-first : goal.decreases-loop-first
decreases-loop-first l = l.nodes - l.first

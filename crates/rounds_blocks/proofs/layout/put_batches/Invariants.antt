use Rattle.std.proofs.Common.{◌≡◌, ◌<◌, ◌++◌, length, All}
use Rattle.rounds_blocks.specs.Batches.{AreFalling, IsBatch, nodes_of}
use Rattle.rounds_blocks.proofs.layout.put_batches.Given as goal

-- the nodes that are left complete the batches
abbrev pub invariant-loop-rest : goal.invariant-loop-rest
invariant-loop-rest l = record {
  all : nodes_of l.batches.items ++ l.rest ≡ nodes_of l.initial.batches.items ++ l.nodes;
  each : All (IsBatch l.network) l.batches.items;
  within : All (λ u. u < length l.network) l.rest;
  falling : AreFalling l.network l.rest;
}

abbrev pub decreases-loop-rest : goal.decreases-loop-rest
decreases-loop-rest l = length l.rest

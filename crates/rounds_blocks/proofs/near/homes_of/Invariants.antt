use Rattle.std.proofs.Common.{◌≡◌, length, take, slice_index, All}
use Rattle.rounds_blocks.specs.Batches.{nodes_of}
use Rattle.rounds_blocks.specs.Nears.{StandsIn}
use Rattle.rounds_blocks.proofs.near.homes_of.Given as goal

-- the nodes of the first batches have their homes
abbrev pub invariant-loop-i : goal.invariant-loop-i
invariant-loop-i l = record {
  count : length l.homes.items ≡ l.nodes;
  settled : All (λ u. StandsIn l.batches u (slice_index l.homes.items u)) (nodes_of (take l.i l.batches));
}

use Rattle.std.proofs.Common.{◌≡◌, ◌++◌, drop}
use Rattle.net_random.specs.Blocks.{blocks_from, blocks_of}
use Rattle.net_random.proofs.block.blocks_of.Given as goal

abbrev pub invariant-loop-block : goal.invariant-loop-block
invariant-loop-block l = l.blocks.items ++ blocks_from l.block (drop l.block l.sizes) ≡ blocks_of l.sizes

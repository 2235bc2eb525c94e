use Rattle.std.proofs.Common.{◌≡◌, ◌++◌, replicate}
use Rattle.net_random.proofs.block.put_block.Given as goal

abbrev pub invariant-loop : goal.invariant-loop
invariant-loop l = l.blocks.items ≡ l.fn.blocks.items ++ replicate l.counter l.block

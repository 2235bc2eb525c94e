use Rattle.net_random.proofs.Blocks.{block_more}
use Rattle.net_random.proofs.block.blocks_of.Goals as goal

pub loop-block-preserved : goal.loop-block-preserved
loop-block-preserved c = block_more c.args.sizes.now c.loop-block.block c.loop-block.blocks.items c.in_ok-put_block.ensures c.loop-block-test.true c.loop-block.invariant

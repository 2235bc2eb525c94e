use Rattle.std.specs.List.Sorted.{IsStrictlySortedBy}
use Rattle.net_random.proofs.block.block_text.Goals as goal

pub write_network-requires-clause-rising : goal.write_network-requires-clause-rising
unfolding IsStrictlySortedBy
write_network-requires-clause-rising c = rw (c.deref.ensures.value, c.new-none.ensures.items) tt

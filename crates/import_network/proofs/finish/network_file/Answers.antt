use Rattle.std.specs.List.Sorted.{IsStrictlySortedBy}
use Rattle.import_network.proofs.finish.network_file.Goals as goal

pub write_network-requires-clause-rising : goal.write_network-requires-clause-rising
unfolding IsStrictlySortedBy
write_network-requires-clause-rising c = rw (c.as_slice.ensures.value, c.new-no_sets.ensures.items) tt

use Rattle.std.specs.List.Sorted.{IsStrictlySortedBy}
use Rattle.net_text.proofs.row_file.row_text.Goals as goal

pub write_network-requires-clause-rising : goal.write_network-requires-clause-rising
unfolding IsStrictlySortedBy
write_network-requires-clause-rising c = tt

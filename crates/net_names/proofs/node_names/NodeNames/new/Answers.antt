use Rattle.std.proofs.Common.{rules}
use Rattle.std.specs.List.{IsDistinct}
use Rattle.net_names.proofs.node_names.NodeNames.new.Goals as goal

pub invariant_of-result : goal.invariant_of-result
unfolding IsDistinct
invariant_of-result c = rw c.new.ensures.empty (record { each = tt; distinct = tt; few = search rules })

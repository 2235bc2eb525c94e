use Rattle.std.proofs.Common.{◌≤◌, length, ap, arith}
use Rattle.large_net.proofs.Parts.{rows_count, few_nodes}
use Rattle.large_net.proofs.network.LargeNetwork.nodes.Goals as goal

pub overflow_cast-result : goal.overflow_cast-result
overflow_cast-result c =
    let few : length c.self.inside.offsets.items ≤ 4294967296 = few_nodes c.self.inside.offsets.items c.self.inside.neighbours.items c.self.inside.weights.items c.self.invariant in
    omega (arith, few, c.len.ensures)

pub returns-clause-count : goal.returns-clause-count
returns-clause-count c =
    let count = rows_count c.self.inside.offsets.items c.self.inside.neighbours.items c.self.inside.weights.items in
    omega (arith, count, c.len.ensures, ap length c.self.view_is)

use Rattle.std.proofs.Common.{◌≤◌, length, ap, arith}
use Rattle.link_net.proofs.Looks.{rows_count}
use Rattle.link_net.proofs.LentRows.{few_rows}
use Rattle.link_net.proofs.lent.NetRows.nodes.Goals as goal

pub overflow_cast-result : goal.overflow_cast-result
overflow_cast-result c =
    let few : length c.self.inside.offsets.now ≤ 4294967296 = few_rows c.self.inside.offsets.now c.self.inside.neighbours.now c.self.inside.weights.now c.self.invariant in
    omega (arith, few)

pub returns-clause-count : goal.returns-clause-count
returns-clause-count c =
    let count = rows_count c.self.inside.offsets.now c.self.inside.neighbours.now c.self.inside.weights.now in
    omega (arith, count, ap length c.self.view_is)

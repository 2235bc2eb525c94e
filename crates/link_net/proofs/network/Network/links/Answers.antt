use Rattle.std.proofs.Common.{length, ap, arith}
use Rattle.std.specs.List.{sum_by}
use Rattle.link_net.proofs.Looks.{rows_sum, half_links}
use Rattle.link_net.proofs.network.Network.links.Goals as goal

pub overflow_cast-result : goal.overflow_cast-result
overflow_cast-result c =
    let half = half_links c.self.inside.offsets.items c.self.inside.neighbours.items c.self.inside.weights.items c.self.invariant in
    omega (arith, half.1, half.2, c.len.ensures)

pub returns : goal.returns
returns c =
    let half = half_links c.self.inside.offsets.items c.self.inside.neighbours.items c.self.inside.weights.items c.self.invariant in
    let sum = rows_sum c.self.inside.offsets.items c.self.inside.neighbours.items c.self.inside.weights.items c.self.invariant.paired c.self.invariant.placed in
    record {
      count = omega (arith, half.2, sum, c.len.ensures, ap (sum_by length) c.self.view_is);
      bound = omega (arith, half.1, half.2, c.len.ensures);
    }

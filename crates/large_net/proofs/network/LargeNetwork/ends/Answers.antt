use Rattle.std.proofs.Common.{length, ap, arith}
use Rattle.std.specs.List.{sum_by}
use Rattle.large_net.proofs.Parts.{rows_sum}
use Rattle.large_net.proofs.network.LargeNetwork.ends.Goals as goal

pub returns : goal.returns
returns c =
    let held = c.self.invariant.held in
    let total = rows_sum c.self.inside.offsets.items c.self.inside.neighbours.items c.self.inside.weights.items held.paired held.placed in
    record { count = omega (arith, total, c.len.ensures, ap (sum_by length) c.self.view_is) }

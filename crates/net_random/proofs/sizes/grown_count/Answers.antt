use Rattle.std.proofs.Common.{arith}
use Rattle.net_random.proofs.Growing.{doubled}
use Rattle.net_random.proofs.sizes.grown_count.Goals as goal

pub returns : goal.returns
returns c =
    let twice = doubled c.args.each c.args.nodes in
    let most = c.min-most.ensures in
    rw most (omega arith)

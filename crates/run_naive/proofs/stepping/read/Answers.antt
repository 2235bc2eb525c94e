use Rattle.std.proofs.Common.{arith}
use Rattle.std.proofs.Math.Seq.{map-set_same}
use Rattle.link_net.specs.Neighbours.{slot_at}
use Rattle.run_naive.specs.Keeping.{past_of}
use Rattle.run_naive.proofs.Seen.{read_shown}
use Rattle.run_naive.proofs.stepping.read.Goals as goal

pub returns-then-reader-nodes-clause-after : goal.returns-then-reader-nodes-clause-after
returns-then-reader-nodes-clause-after c =
    let found = rw c.network.ensures.network at c.in-Some.ensures.exact in
    read_shown c.args.nodes.now c.args.node c.args.slot (slot_at c.args.plan.now.network c.args.node c.args.slot) c.in-Some.near c.index-nodes-reader.result c.take.new.self found (omega arith) c.take.ensures.copy

pub returns-then-reader-nodes-clause-past : goal.returns-then-reader-nodes-clause-past
returns-then-reader-nodes-clause-past c = map-set_same past_of c.args.nodes.now c.args.node c.take.new.self c.index-nodes-reader.result c.take.ensures.past
